use Rattle.cel_types.proofs.CheckNames.{no_root, root_connection, root_destination, root_request, root_source}
use Rattle.cel_types.proofs.names.is_root.Goals as goal

pub returns-in_default : goal.returns-in_default
returns-in_default c =
    no_root c.args.name.now c.utf8.name c.in_default.not-request c.in_default.not-source
    c.in_default.not-destination c.in_default.not-connection

pub returns-in-request : goal.returns-in-request
returns-in-request c = root_request c.args.name.now c.utf8.name c.in-request.is-request

pub returns-in-request-2 : goal.returns-in-request-2
returns-in-request-2 c = root_source c.args.name.now c.utf8.name c.in-request.is-source

pub returns-in-request-3 : goal.returns-in-request-3
returns-in-request-3 c = root_destination c.args.name.now c.utf8.name c.in-request.is-destination

pub returns-in-request-4 : goal.returns-in-request-4
returns-in-request-4 c = root_connection c.args.name.now c.utf8.name c.in-request.is-connection

use Rattle.http2.proofs.Contents.{calls_have_their_data}
use Rattle.http2.proofs.laws.content_is_the_streams_data.Goals as goal

pub returns : goal.returns
returns c = calls_have_their_data

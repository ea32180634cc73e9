use Rattle.ads.proofs.response.written.Goals as goal

pub returns : goal.returns
returns c =
    let written = c.in_ok-write_response.ensures.found in
    let whole = rw c.new-message.ensures.items at written.2 in
    rw whole (rw c.in_ok-resources.ensures at written.1)

use Rattle.run_parts.proofs.Calls.{put-done}
use Rattle.run_parts.proofs.states.Loading.put.Goals as goal

pub returns-clause-history : goal.returns-clause-history
returns-clause-history g c sq put h agrees =
    put-done g.E.Entry.kind c.args.self.now.reserve.now _ _ _ _ _ _ sq put _ c.in_ok-place.ensures.value c.in_ok-p.ensures.ok_part h agrees

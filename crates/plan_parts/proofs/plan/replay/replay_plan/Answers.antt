use Rattle.std.proofs.Common.{ℕ, ◌+◌, List, [], map, get_or, take, arith}
use Rattle.plan_parts.specs.PlanCalls.{asked}
use Rattle.plan_parts.specs.PlanView.{view}
use Rattle.plan_parts.specs.declared.plan.plan_call.PlanCall.{PlanCall}
use Rattle.plan_parts.specs.declared.plan.plan_call.PlanCall.TheVariants.{Load}
use Rattle.plan_parts.proofs.Replays.{replay-all, replay-kept, replay-more, take-asked}
use Rattle.plan_parts.proofs.plan.replay.replay_plan.Goals as goal

pub loop-call-preserved : goal.loop-call-preserved
loop-call-preserved g c =
    let calls : List PlanCall = c.args.calls.now in
    let k : ℕ = c.loop-call.call-index in
    let d : PlanCall = Load (record { ref_ptr = (0, 0); now = [] }) in
    replay-more (g.N.Network.meaning c.args.network.now) (take k (map asked calls)) (take (k + 1) (map asked calls)) (view c.loop-call.plan) (view c.make.new.self) (asked (get_or calls k d))
    (take-asked calls k d c.loop-call-test.true) c.loop-call.invariant c.make.ensures

pub returns-clause-kept : goal.returns-clause-kept
returns-clause-kept g c =
    let net = g.N.Network.meaning c.args.network.now in
    let s = view c.loop-call.plan in
    replay-kept net (map asked c.args.calls.now) s (replay-all net c.args.calls.now c.loop-call.call-index s (omega arith) c.loop-call.invariant)

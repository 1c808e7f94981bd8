use Rattle.std.proofs.Common.{◌≡◌, length, None, ap, rules}
use Rattle.elimination.specs.Words.{in_row}
use Rattle.elimination.proofs.MemberWalks.{members-first, members-none}
use Rattle.elimination.proofs.pair_set.members.RowMembersIterator.next.Goals as goal

pub returns-in_err-member-clause-steps : goal.returns-in_err-member-clause-steps
returns-in_err-member-clause-steps c =
    let e : c.from_residual.result ≡ None = search rules in
    let n = members-none (in_row c.args.self.now.row) c.args.self.now.from c.in_err-member.ensures in
    rw e (n, n)

pub returns-clause-steps : goal.returns-clause-steps
returns-clause-steps c = members-first (in_row c.args.self.now.row) c.args.self.now.from c.in_ok-member.member c.in_ok-member.ensures

pub returns-clause-goes : goal.returns-clause-goes
returns-clause-goes c =
    let l = ap length (members-first (in_row c.args.self.now.row) c.args.self.now.from c.in_ok-member.member c.in_ok-member.ensures) in
    search rules

use Rattle.std.proofs.Common.{◌≡◌, ◌+◌, ◌-◌, ◌*◌, ◌%◌, ◌^◌, arith}
use Rattle.std.proofs.lemmas.Nat.{one_shl}
use Rattle.pattern.specs.declared.node.Node.TheVariants.{Test, Seq, Or, Star, Plus, Opt}
use Rattle.pattern.proofs.Gathers.{view, test_number, gathered_test, gathered_seq, gathered_either, gathered_star, gathered_plus, gathered_opt, gathered_tag, same_gathered, same_edges}
use Rattle.pattern.proofs.positions.+gather.Goals as goal

pub returns-in-Test : goal.returns-in-Test
returns-in-Test t c = λ e s.
    let n = c.in-Test.n in
    let b = test_number c.args.nodes.now c.args.k c.requires n c.in-Test.is in
    let v = view c.args.nodes.now c.args.k (Test n) s c.in-Test.is in
    let j : n ≡ (n - 1) + 1 = omega arith in
    let x : (1 * 2 ^ (n - 1)) % 2 ^ 64 ≡ 2 ^ (n - 1) = one_shl (n - 1) 64 (omega arith) in
    same_gathered v (gathered_test n (n - 1) _ j x)

pub returns-in-Seq : goal.returns-in-Seq
returns-in-Seq t c = λ e s.
    let v = view c.args.nodes.now c.args.k (Seq c.in-Seq.a c.in-Seq.b) s c.in-Seq.is in
    same_gathered v.2 (gathered_seq (c.gather-left.ensures v.0 v.5) (c.gather-right.ensures v.1 v.6) c.link.ensures c.then.ensures)

pub returns-in-Or : goal.returns-in-Or
returns-in-Or t c = λ e s.
    let v = view c.args.nodes.now c.args.k (Or c.in-Or.a c.in-Or.b) s c.in-Or.is in
    same_gathered v.2 (same_edges c.or.ensures (gathered_either (c.gather-left-in-Or.ensures v.0 v.5) (c.gather-right-in-Or.ensures v.1 v.6)))

pub returns-in-Star : goal.returns-in-Star
returns-in-Star t c = λ e s.
    let v = view c.args.nodes.now c.args.k (Star c.in-Star.a) s c.in-Star.is in
    same_gathered v.1 (same_edges c.or_none.ensures (gathered_star (c.gather-inner.ensures v.0 v.3) c.link-in-Star.ensures))

pub returns-in-Plus : goal.returns-in-Plus
returns-in-Plus t c = λ e s.
    let v = view c.args.nodes.now c.args.k (Plus c.in-Plus.a) s c.in-Plus.is in
    same_gathered v.1 (gathered_plus (c.gather-inner-in-Plus.ensures v.0 v.3) c.link-in-Plus.ensures)

pub returns-in-Opt : goal.returns-in-Opt
returns-in-Opt t c = λ e s.
    let v = view c.args.nodes.now c.args.k (Opt c.in-Opt.a) s c.in-Opt.is in
    same_gathered v.1 (same_edges c.or_none-in-Opt.ensures (gathered_opt (c.gather.ensures v.0 v.3)))

pub returns-in-Tag : goal.returns-in-Tag
returns-in-Tag t c = λ e s.
    let v = view c.args.nodes.now c.args.k _ s c.in-Tag.is in
    same_gathered v.1 (gathered_tag (c.gather-in-Tag.ensures v.0 v.3) _)

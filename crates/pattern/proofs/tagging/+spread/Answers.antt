use Rattle.std.proofs.Common.{◌≡◌, ◌+◌, ◌-◌, ◌*◌, ◌%◌, ◌^◌, arith}
use Rattle.std.proofs.lemmas.Nat.{one_shl}
use Rattle.pattern.specs.declared.node.Node.TheVariants.{Test, Seq, Or, Star, Plus, Opt, Tag}
use Rattle.pattern.proofs.Gathers.{view}
use Rattle.pattern.proofs.TagSpreads.{test_range, tag_range, spread_test, spread_seq, spread_either, spread_star, spread_plus, spread_opt, spread_tag, same_spread}
use Rattle.pattern.proofs.tagging.+spread.Goals as goal

pub returns-in-Test : goal.returns-in-Test
returns-in-Test t c = λ e s.
    let b = test_range c.requires c.in-Test.is in
    same_spread (view c.args.nodes.now c.args.k (Test c.in-Test.n) s c.in-Test.is) (spread_test c.in-Test.n c.args.around c.args.sets.now b.0 (omega (arith, b.1, c.told-sets)))

pub returns-in-Seq : goal.returns-in-Seq
returns-in-Seq t c = λ e s.
    let v = view c.args.nodes.now c.args.k (Seq c.in-Seq.a c.in-Seq.b) s c.in-Seq.is in
    same_spread v.2 (spread_seq (c.spread.ensures v.0 v.5) (c.spread-in-Seq.ensures v.1 v.6))

pub returns-in-Or : goal.returns-in-Or
returns-in-Or t c = λ e s.
    let v = view c.args.nodes.now c.args.k (Or c.in-Or.a c.in-Or.b) s c.in-Or.is in
    same_spread v.2 (spread_either (c.spread-in-Or.ensures v.0 v.5) (c.spread-in-Or-2.ensures v.1 v.6))

pub returns-in-Star : goal.returns-in-Star
returns-in-Star t c = λ e s.
    let v = view c.args.nodes.now c.args.k (Star c.in-Star.a) s c.in-Star.is in
    same_spread v.1 (spread_star (c.spread-in-Star.ensures v.0 v.3))

pub returns-in-Plus : goal.returns-in-Plus
returns-in-Plus t c = λ e s.
    let v = view c.args.nodes.now c.args.k (Plus c.in-Plus.a) s c.in-Plus.is in
    same_spread v.1 (spread_plus (c.spread-in-Plus.ensures v.0 v.3))

pub returns-in-Opt : goal.returns-in-Opt
returns-in-Opt t c = λ e s.
    let v = view c.args.nodes.now c.args.k (Opt c.in-Opt.a) s c.in-Opt.is in
    same_spread v.1 (spread_opt (c.spread-in-Opt.ensures v.0 v.3))

pub returns-in-Tag : goal.returns-in-Tag
returns-in-Tag t c = λ e s.
    let n = c.in-Tag.t in
    let b = tag_range c.requires c.in-Tag.is in
    let v = view c.args.nodes.now c.args.k (Tag n c.in-Tag.a) s c.in-Tag.is in
    let j : n ≡ (n - 1) + 1 = omega (arith, b.0) in
    let x : (1 * 2 ^ (n - 1)) % 2 ^ 8 ≡ 2 ^ (n - 1) = one_shl (n - 1) 8 (omega (arith, b.1)) in
    same_spread v.1 (spread_tag n (n - 1) _ j x (c.spread-in-Tag.ensures v.0 v.3))

use Rattle.std.proofs.Common.{◌≡◌, ℕ, ◌+◌, ◌<◌, true, length, get_or, Ok, Err, sym, refl, ap, ◌∙◌, subst, arith}
use Rattle.std.proofs.lemmas.Result.{err_from_is_err_and}
use Rattle.pattern.specs.declared.fault.Fault.TheVariants.{LooseBracket}
use Rattle.pattern.specs.declared.reader.Part.{Part}
use Rattle.pattern.specs.declared.reader.Reader.{Reader}
use Rattle.pattern.specs.Descent.{kind_at, offset_at, codes, tags, group, ended, fault, loose}
use Rattle.pattern.specs.Expressions.{Expr}
use Rattle.pattern.specs.Gathering.{Numerable}
use Rattle.pattern.specs.Nodes.{source_of, Did}
use Rattle.automaton.specs.Bit.{bit}
use Rattle.pattern.specs.Positions.{has_empty, begins, ends, follows, size, numbered}
use Rattle.pattern.specs.Tags.{tag_set}
use Rattle.pattern.specs.TagWalks.{Taggable}
use Rattle.pattern.specs.Trees.{tree}
use Rattle.pattern.proofs.Numbering.{numbers}
use Rattle.pattern.proofs.TagNumbers.{in_range}
use Rattle.pattern.proofs.Steps.{codes_none, tags_none, kind_is}
use Rattle.pattern.proofs.Tables.{stands_tree, same_syntax}
use Rattle.pattern.proofs.Agree.{whole_scan}
use Rattle.pattern.proofs.reader.parse.Goals as goal

pub invariant_of-reader : goal.invariant_of-reader
invariant_of-reader c =
    let ts = c.args.tokens.now in
    record {
      short = c.requires;
      within = omega arith;
      room = omega arith;
      few = omega arith;
      tests_are = sym (ap length (codes_none ts));
      codes_are = sym (codes_none ts);
      tags_are = sym (tags_none ts);
    }

pub returns-in_err-whole : goal.returns-in_err-whole
returns-in_err-whole c =
    let p = err_from_is_err_and c.from_residual.result c.from_residual.ensures.1 in rw (p.1, p.2) (sym (whole_scan (fault c.in_err-whole.ensures)))

pub returns-in_default : goal.returns-in_default
returns-in_default c =
    let d = c.in_ok-whole.ensures in
    let i = c.group.new.self.pos in
    ap (λ t. Err (LooseBracket t.offset)) c.peek-behind.ensures ∙ ap (λ s. Err (LooseBracket (offset_at s i))) d.kept.same ∙ sym (whole_scan (loose d.reads (λ e. c.in_default.not-End (ap (λ t. t.kind) c.peek-behind.ensures ∙ ap (λ s. kind_at s i) d.kept.same ∙ e))))

-- what was read: its expression is that of the table, and its tests are numbered from 1
module _ {A r : Reader} {k : Part} (start : A.pos ≡ 0) (blank : A.used ≡ 0) (d : Did (group 0) A k r) where
  room : k.root < 240
  room = let b = d.kept in omega (arith, b.below, b.room, r.within, r.short)

  tree_is : tree 240 r.nodes k.root ≡ d.expr
  tree_is = stands_tree d.means.stands 240 room

  before_all : length (codes (source_of A) A.pos) ≡ 0
  before_all = ap length (ap (codes (source_of A)) start ∙ codes_none A.tokens.now)

  in_order : numbered d.expr 1 ≡ true
  in_order = subst (λ n. numbered d.expr n ≡ true) (ap (λ n. n + 1) before_all) (numbers d.reads).in_order

  counted : size d.expr ≡ r.tests
  counted = omega (arith, (numbers d.reads).up_to, before_all, ap (λ s. length (codes s r.pos)) d.kept.same, r.tests_are)

  numerable : Numerable r.nodes k.root
  numerable = record { in_table = room; expr = d.expr; stands = d.means.stands; low = 1; from_one = omega arith; to_64 = omega (arith, counted, r.few); in_order = in_order }

  taggable : Taggable r.nodes k.root
  taggable = record { in_table = room; expr = d.expr; stands = d.means.stands; in_range = in_range d.reads }

pub automaton-machine-requires : goal.automaton-machine-requires
automaton-machine-requires c = numerable refl refl c.in_ok-whole.ensures

pub tag_sets-sets-requires : goal.tag_sets-sets-requires
tag_sets-sets-requires c = taggable refl refl c.in_ok-whole.ensures

pub invariant_of-result : goal.invariant_of-result
invariant_of-result c =
    let d = c.in_ok-whole.ensures in
    let e = sym (tree_is refl refl d) in
    let p = c.automaton-machine.ensures d.expr d.means.stands in
    let at : (P : Expr → Type 0) → P d.expr → P (tree 240 c.group.new.self.nodes c.in_ok-whole.whole.root) = λ P x. subst P e x in
    record {
      few = c.group.new.self.few;
      counted = at (λ x. size x ≡ c.group.new.self.tests) (counted refl refl d);
      ordered = at (λ x. numbered x 1 ≡ true) (in_order refl refl d);
      empty = at (λ x. c.automaton-machine.result.nullable ≡ has_empty x) p.empty;
      beginnings = at (λ x. (i : ℕ) → bit c.automaton-machine.result.first i ≡ begins x (i + 1)) p.first;
      endings = at (λ x. (i : ℕ) → bit c.automaton-machine.result.last i ≡ ends x (i + 1)) p.last;
      followings = at (λ x. (i : ℕ) → (j : ℕ) → i < 64 → bit (get_or c.automaton-machine.result.follow i 0) j ≡ follows x (i + 1) (j + 1)) p.follow;
      sets_are = at (λ x. (q : ℕ) → get_or c.tag_sets-sets.result q 0 ≡ tag_set x (q + 1)) (c.tag_sets-sets.ensures d.expr d.means.stands);
    }

pub returns : goal.returns
returns c =
    let d = c.in_ok-whole.ensures in
    let r = c.group.new.self in
    let end = ap (λ s. kind_at s r.pos) (sym d.kept.same) ∙ kind_is (source_of r) r.pos c.peek-behind.ensures c.in-End.is in
    let w = whole_scan (ended d.reads end) in
    ap Ok (same_syntax (tree_is refl refl d) (r.codes_are ∙ ap (λ s. codes s r.pos) d.kept.same) (r.tags_are ∙ ap (λ s. tags s r.pos) d.kept.same)) ∙ sym w

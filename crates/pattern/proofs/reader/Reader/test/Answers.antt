use Rattle.std.proofs.Common.{◌≡◌, ◌+◌, ◌<◌, ◌∷◌, [], ◌++◌, length, sym, refl, ap, ◌∙◌, arith, length-append}
use Rattle.std.proofs.lemmas.List.{take_more_set}
use Rattle.pattern.specs.declared.fault.Fault.TheVariants.{TooManyTests}
use Rattle.pattern.specs.Descent.{unit_tests, codes_before}
use Rattle.pattern.specs.Nodes.{source_of}
use Rattle.pattern.proofs.Steps.{at_some, codes_next, tags_counted, test_unit, faulted}
use Rattle.pattern.proofs.reader.Reader.test.Goals as goal

pub returns-then-tests-ge-MOST_TESTS : goal.returns-then-tests-ge-MOST_TESTS
returns-then-tests-ge-MOST_TESTS c = λ d. faulted (source_of c.args.self.now) c.args.self.now.pos c.peek.ensures TooManyTests (unit_tests c.requires (omega (arith, c.args.self.now.tests_are)))

pub invariant_of-self : goal.invariant_of-self
invariant_of-self c =
    let r = c.args.self.now in
    let l : r.pos < length r.tokens.now = at_some (source_of r) r.pos _ c.requires refl in
    let more : codes_before r.tokens.now (r.pos + 1) ≡ codes_before r.tokens.now r.pos ++ (c.args.code ∷ []) = codes_next (source_of r) r.pos _ c.requires in
    record {
      short = r.short;
      within = omega arith;
      room = omega (arith, r.room);
      few = omega arith;
      tests_are = ap (λ n. n + 1) r.tests_are ∙ sym (ap length more ∙ length-append (codes_before r.tokens.now r.pos) (c.args.code ∷ []));
      codes_are = take_more_set r.codes r.tests c.args.code (omega arith) ∙ ap (λ x. x ++ (c.args.code ∷ [])) r.codes_are ∙ sym more;
      tags_are = omega (arith, tags_counted r _ c.requires);
    }

pub returns : goal.returns
returns c = λ d. test_unit c.requires (omega arith) (record { same = refl; pos = refl; used = refl; nodes = refl }) c.add.ensures

use Rattle.std.proofs.Common.{◌≡◌, is_some, ap, ◌∙◌, subst}
use Rattle.alphabet.specs.Letters.{letter_reading}
use Rattle.shelf.specs.Filing.{counts}
use Rattle.proofreading.specs.Tallies.{Counts}
use Rattle.proofreading.specs.Verdicts.{Verdict, verdict_text}
use Rattle.proofreading.specs.Proofreading.{verdict_on}
use Rattle.proofreading.proofs.Fronts.{by_bytes, front_suffices, one_more_lem}
use Rattle.proofreading.proofs.proofreader.Proofreader.proofread.Goals as goal

pub invariant_of-self : goal.invariant_of-self
invariant_of-self c = record { bare = ap is_some c.withdraw.ensures.nothing_stands_there }

pub returns : goal.returns
returns c =
    let bytes = c.args.bytes.now in
    let t = c.args.self.now.tally in
    let v : c.file-verdict.result ≡ verdict_on bytes = c.file-verdict.ensures.counts_or_refusal ∙ ap counts (by_bytes letter_reading c.args.self.now.shelf.places bytes c.args.self.now.bare) in
    let k = c.count.ensures in
    record {
      verdict = c.write_verdict.ensures.text ∙ ap (λ n. verdict_text n bytes c.file-verdict.result) (ap (λ u. u.patterns) k.value ∙ one_more_lem t c.file-verdict.result) ∙ ap (verdict_text _ bytes) v;
      tally = let P : Verdict → Type 0 = λ x. Counts t x c.count.new.self in subst P v k;
      front = front_suffices;
    }

use Rattle.std.proofs.Common.{◌≤◌, length, sym, subst, IfErr, MatchResult}
use Rattle.std.proofs.lemmas.Result.{err_from_is_err_and}
use Rattle.cue.specs.Answers.{IsRecord}
use Rattle.cue.specs.FirstFaults.{RefusedForFirst}
use Rattle.cue.proofs.RoundTrip.{accepted, refused}
use Rattle.cue.proofs.FirstFaults.{first_fault}
use Rattle.cue.proofs.Filling.{all_bytes}
use Rattle.cue.proofs.reading.read.Goals as goal

pub returns-in_err-found-clause-exactly_the_records : goal.returns-in_err-found-clause-exactly_the_records
returns-in_err-found-clause-exactly_the_records c =
    let p = err_from_is_err_and c.from_residual-in_err-found.result c.from_residual-in_err-found.ensures.1 in
    subst (λ r. MatchResult r (λ _. IsRecord c.args.symbols c.args.bytes.now) (λ _. c.args.symbols ≤ 160 → c.args.symbols ≤ length c.args.marks.now → IsRecord c.args.symbols c.args.bytes.now → ⊥))
    (sym p.1) (λ h l is. refused c.args.symbols c.args.bytes.now c.in_err-found.field-0.0 c.in_err-found.ensures is)

pub returns-in_err-found-clause-refused_for_the_first_fault : goal.returns-in_err-found-clause-refused_for_the_first_fault
returns-in_err-found-clause-refused_for_the_first_fault c =
    let p = err_from_is_err_and c.from_residual-in_err-found.result c.from_residual-in_err-found.ensures.1 in
    let first = first_fault c.args.symbols c.args.bytes.now c.in_err-found.field-0.0 c.in_err-found.ensures in
    subst (λ r. IfErr r (λ refusal. RefusedForFirst c.args.symbols c.args.bytes.now refusal)) (sym p.1)
    (subst (λ refusal. RefusedForFirst c.args.symbols c.args.bytes.now refusal) (sym p.2) first)

pub returns-clause-exactly_the_records : goal.returns-clause-exactly_the_records
returns-clause-exactly_the_records c = accepted c.args.symbols c.args.bytes.now _ _ (all_bytes c.args.bytes.now (λ i. (c.type_inv.bytes i).fits)) c.in_ok-check_line.ensures.within.0 c.in_ok-found.ensures

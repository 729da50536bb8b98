use Rattle.std.proofs.Common.{◌≡◌, ◌+◌, ◌/◌, ◌%◌, ◌∷◌, sym, ap, ◌∙◌, arith}
use Rattle.text.proofs.Chains.{◌then◌, read_as}
use Rattle.cue.specs.Leb128.{leb128}
use Rattle.cue.proofs.Groups.{leb_small, leb_step}
use Rattle.cue.proofs.writing.write_number.Goals as goal

pub loop-rest-preserved : goal.loop-rest-preserved
loop-rest-preserved c u a =
    let n = c.loop-rest.rest in
    let low : n % 128 + 128 ≡ 128 + n % 128 = omega arith in
    c.loop-rest.invariant u (read_as (ap (λ b. b ∷ leb128 (n / 128)) low ∙ sym (leb_step n c.loop-rest-test.true)) (c.byte.ensures then a))

pub returns : goal.returns
returns c = c.loop-rest.invariant _ (read_as (sym (leb_small c.loop-rest.rest c.loop-rest-test.false)) c.byte-2.ensures)

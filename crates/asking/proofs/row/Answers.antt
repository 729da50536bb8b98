use Rattle.std.proofs.Common.{◌≡◌, ℕ, ◌*◌, ◌%◌, ◌^◌, Bool, [], ◌∷◌, min, length, take, sym, ap, ◌∙◌, subst, rules, length-take-le}
use lib.Bits.{bit_or}
use mir.Val.{bool_byte}
use Rattle.asking.proofs.Rowing.{RowOfCodes, no_codes, code_before, first_codes, fewer, taken, none_left}
use Rattle.asking.proofs.row.Goals as goal

pub loop-code-init : goal.loop-code-init
loop-code-init g c = ([], search rules, no_codes (λ code. g.A.Alphabet.meaning c.args.alphabet.now code c.args.symbol.now))

pub loop-code-preserved : goal.loop-code-preserved
loop-code-preserved g c =
    let admits : ℕ → Bool = λ code. g.A.Alphabet.meaning c.args.alphabet.now code c.args.symbol.now in
    let inv = c.loop-code.invariant in
    let code = c.in-Some.code.now in
    let few = fewer _ _ inv.0 c.args.codes.now code c.in-Some.ensures.steps inv.1 in
    (code ∷ inv.0, taken _ _ inv.0 _ code c.in-Some.ensures.steps inv.1, subst (λ b. RowOfCodes admits (code ∷ inv.0) (bit_or ((c.loop-code.admitted * 2) % 2 ^ 64) b)) (sym (c.from.ensures ∙ ap bool_byte c.admits.ensures)) (code_before admits code inv.0 c.loop-code.admitted few inv.2))

pub returns : goal.returns
returns g c =
    let admits : ℕ → Bool = λ code. g.A.Alphabet.meaning c.args.alphabet.now code c.args.symbol.now in
    let inv = c.loop-code.invariant in
    let all : inv.0 ≡ take (min 64 (length c.args.codes.now)) c.args.codes.now = none_left _ inv.0 _ c.in-None.ensures.steps.0 inv.1 in
    first_codes admits (min 64 (length c.args.codes.now)) c.args.codes.now c.loop-code.admitted (length-take-le (min 64 (length c.args.codes.now)) c.args.codes.now (search rules)) (subst (λ codes. RowOfCodes admits codes c.loop-code.admitted) all inv.2)

use Rattle.std.proofs.Common.{◌≡◌, ℕ, ◌<◌, ◌↔◌, [], ◌∷◌, ◌++◌, length, take, Result, Ok, Err, IsOk, OnOk, OnErr, sym, refl, ap, ◌∙◌, arith, length-append}
use Rattle.std.proofs.lemmas.List.{take_all, take_at}
use Rattle.arrayvec.specs.ArrayVec.{ArrayVec}
use Rattle.text.proofs.buffer.Text.byte.Goals as goal

pushed : {E : Type 0} (r : Result (Unit {0}) E) (before after : ArrayVec ℕ) (b : ℕ) → OnOk r (after.items ≡ before.items ++ (b ∷ [])) → OnErr r (after ≡ before)
    → OnErr r (length before.items ≡ 4096) → (IsOk r ↔ (length before.items < 4096)) → after.items ≡ take 4096 (before.items ++ (b ∷ []))
pushed (Ok x) before after b e _ _ v = e ∙ sym (take_all 4096 (before.items ++ (b ∷ [])) (omega (arith, length-append before.items (b ∷ []), v.0 refl)))
pushed (Err x) before after b _ e f v = ap (λ v. v.items) e ∙ sym (take_at before.items (b ∷ []) 4096 f)

pub returns : goal.returns
returns c =
    record { bytes = pushed c.try_push.result c.args.self.now.bytes c.try_push.new.self c.args.byte c.try_push.ensures.ok c.try_push.ensures.err c.try_push.ensures.full c.try_push.ensures.variant }

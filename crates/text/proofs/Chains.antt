-- One text after another.
use Rattle.std.proofs.Common.{◌≡◌, ℕ, ◌+◌, ◌<◌, ◌≤◌, List, [], ◌∷◌, ◌++◌, length, get_or, take, sym, ap, ◌∙◌, arith, subst, append-nil}
use Rattle.std.proofs.lemmas.List.{take_more, take_all}
use Rattle.std.proofs.lemmas.Grind.{common_steps}
use Rattle.text.specs.declared.buffer.Text.{Text}
use Rattle.text.specs.Texts.{Adds, written}
use Rattle.text.proofs.Takes.{take_twice}

infixr 5 ◌then◌
pub ◌then◌ : {t u v : Text} {a b : List ℕ} → Adds t a u → Adds u b v → Adds t (a ++ b) v
◌then◌ {t} {u} {v} {a} {b} p q =
    record { bytes = grind (arith, common_steps, take_twice 4096 (written t ++ a) b) }

pub nothing : (t : Text) → Adds t [] t
nothing t = record { bytes = sym (ap (take 4096) (append-nil (written t)) ∙ take_all 4096 (written t) t.within) }

-- the same text, written otherwise
pub read_as : {t u : Text} {a b : List ℕ} → a ≡ b → Adds t a u → Adds t b u
read_as {t} {u} e p = subst (λ l. Adds t l u) e p

-- what is added to nothing, where it fits
pub alone : {t u : Text} {bs : List ℕ} → written t ≡ [] → Adds t bs u → length bs ≤ 4096 → written u ≡ bs
alone {t} {u} {bs} e p h = p.bytes ∙ ap (λ l. take 4096 (l ++ bs)) e ∙ take_all 4096 bs h

-- one more element of a list that is written element by element
pub element : {X : Type 0} {t u v : Text} (f : List X → List ℕ) (one : X → List ℕ)
    → ((xs : List X) (x : X) → f (xs ++ (x ∷ [])) ≡ f xs ++ one x)
    → (xs : List X) (i : ℕ) (d : X) → i < length xs
    → Adds t (f (take i xs)) u → Adds u (one (get_or xs i d)) v → Adds t (f (take (i + 1) xs)) v
element {X} {t} {u} {v} f one push xs i d h p q =
    read_as (sym (ap f (take_more xs i d h) ∙ push (take i xs) (get_or xs i d))) (p then q)

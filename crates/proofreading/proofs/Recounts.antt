-- A tally has the numbers of its verdicts.
use Rattle.std.proofs.Common.{◌≡◌, ℕ, ◌+◌, ◌<◌, cond, eqb, List, [], ◌∷◌, length, get_or, set, Ok, Err, sym, refl, ap, ◌∙◌, subst, ⊎_elim, arith}
use lib.ListN.{get_or-replicate}
use Rattle.std.proofs.lemmas.Bool.{cases_eq, eq-eqb, ne_eqb}
use Rattle.std.proofs.lemmas.Grind.{common_steps}
use Rattle.pattern.specs.declared.fault.Fault.{Fault}
use Rattle.pattern.specs.Faults.{fault_number}
use Rattle.shelf.specs.declared.refusal.Refusal.{Refusal}
use Rattle.shelf.specs.Refusals.{refusal_number}
use Rattle.proofreading.specs.declared.tally.Tally.{Tally}
use Rattle.proofreading.specs.Verdicts.{Verdict}
use Rattle.proofreading.specs.Tallies.{none_yet, capped, one_more, tallied, lawful_in, refused_in, numbered_in, Tallies, Starts, Counts}

fault_below : (f : Fault) → fault_number f < 16
fault_below f = grind arith

number_below : (r : Refusal) → refusal_number r < 16
number_below r = grind (arith, fault_below)

one_more_lem : (m n : ℕ) → m ≡ capped n → one_more m ≡ capped (n + 1)
one_more_lem m n e = omega arith

numbered_more : (ks : List ℕ) (m n k : ℕ) → m < length ks → get_or ks n 0 ≡ capped k → get_or (set ks m (one_more (get_or ks m 0))) n 0 ≡ capped (cond (eqb m n) (k + 1) k)
numbered_more ks m n k h e = ⊎_elim
    (λ (same : m ≡ n). grind (arith, common_steps, same, eq-eqb m n same, e))
    (λ (other : m ≡ n → ⊥). grind (arith, common_steps, ne_eqb m n other, e))
    (cases_eq m n)

more : (t : Tally) (v : Verdict) → length t.by_number ≡ 16 → (vs : List Verdict) → Tallies vs t → Tallies (v ∷ vs) (tallied t v)
more t (Ok counts) sixteen vs k =
    record { patterns = one_more_lem t.patterns (length vs) k.patterns ∙ ap capped (omega arith); lawful = one_more_lem t.lawful (lawful_in vs) k.lawful; refused = k.refused; numbered = k.numbered }
more t (Err r) sixteen vs k =
    record {
      patterns = one_more_lem t.patterns (length vs) k.patterns ∙ ap capped (omega arith);
      lawful = k.lawful;
      refused = one_more_lem t.refused (refused_in vs) k.refused;
      numbered = λ n h. numbered_more t.by_number (refusal_number r) n (numbered_in n vs) (omega (arith, number_below r)) (k.numbered n h);
    }

pub recounted : {t u : Tally} {v : Verdict} → u ≡ tallied t v → length t.by_number ≡ 16 → Counts t v u
recounted {t} {u} {v} e sixteen = record { value = e; counts = λ vs k. subst (λ x. Tallies (v ∷ vs) x) (sym e) (more t v sixteen vs k) }

pub none_yet_lem : {t : Tally} → t ≡ none_yet → Starts t
none_yet_lem {t} e =
    record {
      value = e;
      counts = subst (λ x. Tallies [] x) (sym e) (record { patterns = refl; lawful = refl; refused = refl; numbered = λ n h. get_or-replicate {A = ℕ} 16 n 0 0 h });
    }

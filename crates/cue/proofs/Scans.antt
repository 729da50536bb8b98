-- Runs and parts, one piece of the marks or one tag at a time.
use Rattle.std.proofs.Common.{◌≡◌, ℕ, zero, suc, ◌+◌, ◌<◌, Bool, true, false, cond, not, eqb, List, [], ◌∷◌, length, get_or, drop, Some, None, Option, count_by, filter, is_some, sym, refl, ap, ◌∙◌, arith}
use Rattle.std.specs.List.{slice_split, onto_first}
use Rattle.std.proofs.lemmas.List.{at_drop_more}
use Rattle.std.proofs.lemmas.Grind.{common_steps}
use Rattle.sheet.specs.declared.Part.{Part}
use Rattle.cue.specs.Marks.{runs_after, runs_of}
use Rattle.cue.specs.Records.{parts_from}

-- the marks between one unmarked symbol and the next
abbrev pub pieces : List ℕ → List (List ℕ)
pieces ms = slice_split (λ m. eqb m 0) ms

-- the runs among pieces, where so many unmarked symbols stand before the first
abbrev pub runs_in : ℕ → List (List ℕ) → List (ℕ × ℕ)
runs_in gap [] = []
runs_in gap (piece ∷ rest) = cond (eqb (length piece) 0) (runs_in (gap + 1) rest) ((gap, length piece) ∷ runs_in 1 rest)

-- the same, where so many marked symbols stand before the first piece, and belong to it
abbrev begun : ℕ → ℕ → List (List ℕ) → List (ℕ × ℕ)
begun gap k [] = (gap, k) ∷ []
begun gap k (piece ∷ rest) = (gap, k + length piece) ∷ runs_in 1 rest

onto : (gap k m : ℕ) (ps : List (List ℕ)) → (runs_in gap (onto_first m ps) ≡ begun gap 1 ps) × (begun gap (suc k) (onto_first m ps) ≡ begun gap (suc (suc k)) ps)
onto gap k m [] = (grind (arith, common_steps), grind (arith, common_steps))
onto gap k m (p ∷ ps) = (grind (arith, common_steps), grind (arith, common_steps))

in_pieces : (gap k : ℕ) (ms : List ℕ) → (runs_after gap zero ms ≡ runs_in gap (pieces ms)) × (runs_after gap (suc k) ms ≡ begun gap (suc k) (pieces ms))
in_pieces gap k [] = (refl, grind (arith, common_steps))
in_pieces gap k (m ∷ ms) = by (eqb m 0) (in_pieces (gap + 1) 0 ms).0 (in_pieces 1 0 ms).0 (in_pieces gap 0 ms).1 (in_pieces gap (suc k) ms).1
  where
    by : (b : Bool) → runs_after (gap + 1) zero ms ≡ runs_in (gap + 1) (pieces ms) → runs_after 1 zero ms ≡ runs_in 1 (pieces ms)
        → runs_after gap 1 ms ≡ begun gap 1 (pieces ms) → runs_after gap (suc (suc k)) ms ≡ begun gap (suc (suc k)) (pieces ms)
        → (cond b (runs_after (gap + 1) zero ms) (runs_after gap 1 ms) ≡ runs_in gap (cond b ([] ∷ pieces ms) (onto_first m (pieces ms))))
        × (cond b ((gap, suc k) ∷ runs_after 1 zero ms) (runs_after gap (suc (suc k)) ms) ≡ begun gap (suc k) (cond b ([] ∷ pieces ms) (onto_first m (pieces ms))))
    by true far one p q = (far, grind (arith, common_steps, one))
    by false far one p q = (p ∙ sym (onto gap 0 m (pieces ms)).0, q ∙ sym (onto gap k m (pieces ms)).1)

pub runs_of_pieces : (ms : List ℕ) → runs_of ms ≡ runs_in 0 (pieces ms)
runs_of_pieces ms = (in_pieces 0 0 ms).0

-- one piece more
pub runs_more : (gap : ℕ) (ps : List (List ℕ)) (i : ℕ) (p : List ℕ) → i < length ps → p ≡ get_or ps i p → runs_in gap (drop i ps) ≡ cond (eqb (length p) 0) (runs_in (gap + 1) (drop (i + 1) ps)) ((gap, length p) ∷ runs_in 1 (drop (i + 1) ps))
runs_more gap ps i p h e = at_drop_more (runs_in gap) ps i p h ∙ ap (λ x. runs_in gap (x ∷ drop (i + 1) ps)) (sym e)

-- there are as many runs as pieces that are not empty
pub runs_counted : (gap : ℕ) (ps : List (List ℕ)) → length (filter (λ run. not (eqb (length run) 0)) ps) ≡ length (runs_in gap ps)
runs_counted gap [] = refl
runs_counted gap (p ∷ ps) = by (eqb (length p) 0) (runs_counted (gap + 1) ps) (runs_counted 1 ps)
  where
    by : (b : Bool) → length (filter (λ run. not (eqb (length run) 0)) ps) ≡ length (runs_in (gap + 1) ps) → length (filter (λ run. not (eqb (length run) 0)) ps) ≡ length (runs_in 1 ps)
        → length (cond (not b) (p ∷ filter (λ run. not (eqb (length run) 0)) ps) (filter (λ run. not (eqb (length run) 0)) ps)) ≡ length (cond b (runs_in (gap + 1) ps) ((gap, length p) ∷ runs_in 1 ps))
    by true far one = far
    by false far one = ap suc one

-- an entry, and those behind it
pub at_entry : {Y : Type 0} (F : List (Option Part) → Y) (entries : List (Option Part)) (i : ℕ) (o : Option Part) → i < length entries → get_or entries i None ≡ o
    → F (drop i entries) ≡ F (o ∷ drop (i + 1) entries)
at_entry F entries i o h e = at_drop_more F entries i None h ∙ ap (λ x. F (x ∷ drop (i + 1) entries)) e

pub parts_counted : (tag : ℕ) (entries : List (Option Part)) → count_by (λ entry. is_some entry) entries ≡ length (parts_from tag entries)
parts_counted tag [] = refl
parts_counted tag (None ∷ entries) = grind (arith, common_steps, parts_counted (tag + 1) entries)
parts_counted tag (Some part ∷ entries) = grind (arith, common_steps, parts_counted (tag + 1) entries)

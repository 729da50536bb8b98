-- The entries of a sheet and their parts.
use Rattle.std.proofs.Common.{◌≡◌, ℕ, zero, suc, ◌+◌, ◌-◌, ◌≤◌, true, ltb, leb, List, [], ◌∷◌, ◌++◌, length, replicate, Some, None, Option, sym, refl, ap, ◌∙◌, append_assoc, arith}
use Rattle.std.proofs.lemmas.List.{set_at, replicate-append-replicate}
use Rattle.std.proofs.lemmas.Bool.{cond-true, le-leb, lt-ltb, and_from}
use Rattle.std.proofs.lemmas.Grind.{common_steps}
use Rattle.sheet.specs.declared.Part.{Part}
use Rattle.sheet.specs.Entries.{with_entry}
use Rattle.cue.specs.Records.{parts_from, fits, all_fit}

pub with_entry_lem : (ys zs : List (Option Part)) (old new : Option Part) (tag : ℕ) → tag ≡ length ys + 1 → tag ≤ 8
    → with_entry (ys ++ (old ∷ zs)) tag new ≡ ys ++ (new ∷ zs)
with_entry_lem ys zs old new tag e h =
    cond-true _ _ _ (and_from (leb 1 tag) (leb tag 8) (le-leb 1 tag (omega (arith, e))) (le-leb tag 8 h)) ∙ set_at ys old zs new (tag - 1) (omega (arith, e))

-- entries that are all none have no parts, and fit
pub no_parts : (n tag : ℕ) → parts_from tag (replicate n None) ≡ []
no_parts zero tag = refl
no_parts (suc n) tag = no_parts n (tag + 1)

pub none_fits : (symbols n : ℕ) → all_fit symbols (replicate n None) ≡ true
none_fits symbols zero = refl
none_fits symbols (suc n) = none_fits symbols n

pub parts_past : (n tag : ℕ) (entries : List (Option Part)) → parts_from tag (replicate n None ++ entries) ≡ parts_from (tag + n) entries
parts_past zero tag entries = let e : tag ≡ tag + 0 = omega arith in ap (λ t. parts_from t entries) e
parts_past (suc n) tag entries = let e : tag + 1 + n ≡ tag + suc n = omega arith in parts_past n (tag + 1) entries ∙ ap (λ t. parts_from t entries) e

pub fits_past : (symbols n : ℕ) (entries : List (Option Part)) → all_fit symbols (replicate n None ++ entries) ≡ all_fit symbols entries
fits_past symbols zero entries = refl
fits_past symbols (suc n) entries = fits_past symbols n entries

pub few_parts : (tag : ℕ) (entries : List (Option Part)) → length (parts_from tag entries) ≤ length entries
few_parts tag [] = omega arith
few_parts tag (None ∷ entries) = omega (arith, few_parts (tag + 1) entries)
few_parts tag (Some part ∷ entries) = omega (arith, few_parts (tag + 1) entries)

-- the entry of a later tag, where none was filled from a tag on
module _ (ys : List (Option Part)) (tag new : ℕ) (part : Part) (t : tag ≡ length ys + 1) (from : tag ≤ new) (to : new ≤ 8) where
  abbrev pub passed : List (Option Part)
  passed = replicate (new - tag) None

  long : length (ys ++ passed) ≡ new - 1
  long = grind (arith, common_steps, t, from)

  pub longer : new + 1 ≡ length ((ys ++ passed) ++ (Some part ∷ [])) + 1
  longer = grind (arith, common_steps, long, t, from)

  split : ys ++ replicate (9 - tag) None ≡ (ys ++ passed) ++ (None ∷ replicate (8 - new) None)
  split =
      let k : 9 - tag ≡ new - tag + suc (8 - new) = omega (arith, from, to) in
      ap (λ i. ys ++ replicate i None) k ∙ ap (λ l. ys ++ l) (sym (replicate-append-replicate (new - tag) (suc (8 - new)) None)) ∙ sym (append_assoc ys passed (None ∷ replicate (8 - new) None))

  pub entered : with_entry (ys ++ replicate (9 - tag) None) new (Some part) ≡ ((ys ++ passed) ++ (Some part ∷ [])) ++ replicate (9 - (new + 1)) None
  entered =
      let left_over : 8 - new ≡ 9 - (new + 1) = omega arith in
      ap (λ es. with_entry es new (Some part)) split
      ∙ with_entry_lem (ys ++ passed) (replicate (8 - new) None) None (Some part) new (omega (arith, long, from, t)) to
      ∙ sym (append_assoc (ys ++ passed) (Some part ∷ []) (replicate (8 - new) None))
      ∙ ap (λ i. ((ys ++ passed) ++ (Some part ∷ [])) ++ replicate i None) left_over

  pub listed : (entries : List (Option Part)) → parts_from tag (passed ++ (Some part ∷ entries)) ≡ (new, part) ∷ parts_from (new + 1) entries
  listed entries = let e : tag + (new - tag) ≡ new = omega (arith, from) in parts_past (new - tag) tag (Some part ∷ entries) ∙ ap (λ i. parts_from i (Some part ∷ entries)) e

-- a part by its start and its length
pub part_fits : (symbols start len : ℕ) → 1 ≤ len → start + len ≤ symbols → fits symbols (record { left = start; right = start + len }) ≡ true
part_fits symbols start len some within =
    and_from (ltb start (start + len)) (leb (start + len) symbols) (lt-ltb start (start + len) (omega (arith, some))) (le-leb (start + len) symbols within)

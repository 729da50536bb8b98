-- What a tally counts.
use Rattle.std.specs.Prelude.{◌≡◌, ℕ, ◌+◌, ◌-◌, ◌^◌, ◌<◌, min, cond, List, [], ◌∷◌, length, replicate, Ok, Err, ◌==◌, slice_index, slice_set}
use Rattle.shelf.specs.Refusals.{refusal_number}
use Rattle.proofreading.specs.declared.tally.Tally.{Tally}
use Rattle.proofreading.specs.Verdicts.{Verdict}

-- the tally of no verdicts
abbrev pub none_yet : Tally
none_yet = record { patterns = 0; lawful = 0; refused = 0; by_number = replicate 16 0 }

-- a count, up to the largest number that a counter holds
abbrev pub capped : ℕ → ℕ
capped n = min n (2 ^ 64 - 1)

-- a count with one more, as far as it can rise
abbrev pub one_more : ℕ → ℕ
one_more n = capped (n + 1)

-- the tally with one verdict more
abbrev pub tallied : Tally → Verdict → Tally
tallied t (Ok counts) = record { patterns = one_more t.patterns; lawful = one_more t.lawful; refused = t.refused; by_number = t.by_number }
tallied t (Err refusal) =
    record {
      patterns = one_more t.patterns;
      lawful = t.lawful;
      refused = one_more t.refused;
      by_number = slice_set t.by_number (refusal_number refusal) (one_more (slice_index t.by_number (refusal_number refusal)));
    }

-- how many of the verdicts are lawful
abbrev pub lawful_in : List Verdict → ℕ
lawful_in [] = 0
lawful_in (Ok counts ∷ vs) = lawful_in vs + 1
lawful_in (Err refusal ∷ vs) = lawful_in vs

-- how many are refused
abbrev pub refused_in : List Verdict → ℕ
refused_in [] = 0
refused_in (Ok counts ∷ vs) = refused_in vs
refused_in (Err refusal ∷ vs) = refused_in vs + 1

-- how many are refused under a number
abbrev pub numbered_in : ℕ → List Verdict → ℕ
numbered_in n [] = 0
numbered_in n (Ok counts ∷ vs) = numbered_in n vs
numbered_in n (Err refusal ∷ vs) = cond (refusal_number refusal == n) (numbered_in n vs + 1) (numbered_in n vs)

-- the tally has the numbers of these verdicts
pub record Tallies (vs : List Verdict) (t : Tally) : Type 0 where
  pub patterns : t.patterns ≡ capped (length vs)
  pub lawful : t.lawful ≡ capped (lawful_in vs)
  pub refused : t.refused ≡ capped (refused_in vs)
  pub numbered : (n : ℕ) → n < 16 → slice_index t.by_number n ≡ capped (numbered_in n vs)

-- a tally that has no verdict yet
pub record Starts (t : Tally) : Type 0 where
  pub value : t ≡ none_yet
  pub counts : Tallies [] t

-- u is t with one verdict more, and so has the numbers of all the verdicts that t has and of this one
pub record Counts (t : Tally) (verdict : Verdict) (u : Tally) : Type 0 where
  pub value : u ≡ tallied t verdict
  pub counts : (vs : List Verdict) → Tallies vs t → Tallies (verdict ∷ vs) u

-- The first fault of bytes stands where it is told, nothing before it is wrong, and it is one whatever follows.
use Rattle.std.proofs.Common.{◌≡◌, ◌≢◌, ℕ, zero, suc, ◌+◌, ◌-◌, ◌*◌, ◌<◌, ◌≤◌, Bool, true, false, cond, ◌&&◌, ◌||◌, eqb, ltb, leb, List, [], ◌∷◌, ◌++◌, length, get_or, take, drop, Ok, Err, Option, Result, IfErr, None, replicate, sym, refl, ap, ◌∙◌, subst, inl, inr, arith, length-drop, drop-drop, get_or-drop}
use Rattle.std.proofs.lemmas.List.{length-take-le}
use Rattle.std.proofs.lemmas.Bool.{ltb-false, leb-true, eqb-true}
use Rattle.sheet.specs.declared.Part.{Part}
use Rattle.cue.specs.declared.cursor.Cue.TheVariants.{Run, TagPart}
use Rattle.cue.specs.declared.refusal.Fault.{Fault}
use Rattle.cue.specs.declared.refusal.Fault.TheVariants.{CutShort, LongNumber, BrokenRule}
use Rattle.cue.specs.Faults.{fault_offset}
use Rattle.cue.specs.Marks.{least_gap}
use Rattle.cue.specs.Cues.{Cues, next, good, bad, second_byte, first_number, in_limits, number_within, after, parts_to_come, runs_to_come, cues_of}
use Rattle.cue.specs.Answers.{filled, content_of}
use Rattle.cue.specs.FirstFaults.{StandsAt, NoneBegins, Stays, IsFirst}
use Rattle.cue.proofs.Numbers.{err_not_ok}
use Rattle.cue.proofs.RoundTrip.{refused}

err_is : {X E : Type 0} {f g : E} → ◌≡◌ {A = Result X E} (Err f) (Err g) → f ≡ g
err_is e = cc

-- what comes ends in this fault
abbrev Ends : Fault → Cues → Type 0
Ends fault (next cue cues) = Ends fault cues
Ends fault good = ⊥
Ends fault (bad g) = g ≡ fault

ends_in : (cues : Cues) (ms : List ℕ) (es : List (Option Part)) (fault : Fault) → filled cues ms es ≡ Err fault → Ends fault cues
ends_in (next (Run run) cues) ms es fault e = ends_in cues _ es fault e
ends_in (next (TagPart one) cues) ms es fault e = ends_in cues ms _ fault e
ends_in good ms es fault e = absurd (err_not_ok (sym e))
ends_in (bad g) ms es fault e = err_is e

filled_ends : (cues : Cues) (ms : List ℕ) (es : List (Option Part)) (fault : Fault) → Ends fault cues → filled cues ms es ≡ Err fault
filled_ends (next (Run run) cues) ms es fault e = filled_ends cues _ es fault e
filled_ends (next (TagPart one) cues) ms es fault e = filled_ends cues ms _ fault e
filled_ends good ms es fault e = absurd e
filled_ends (bad g) ms es fault e = ap Err e

-- a number with limits goes on where the number does and is within them
limits_after : (least most at : ℕ) (x : Result (ℕ × ℕ × List ℕ) Fault) (go_on : ℕ → ℕ → List ℕ → Cues)
    → after x (λ v o r. after (in_limits least most at (Ok (v, o, r))) go_on) ≡ after (in_limits least most at x) go_on
limits_after least most at (Ok x) go_on = refl
limits_after least most at (Err f) go_on = refl

-- of the bytes, these stand from an offset on
record Behind (bytes : List ℕ) (at : ℕ) (rest : List ℕ) : Type 0 where
  within : at ≤ length bytes
  is : drop at bytes ≡ rest

module _ (bytes : List ℕ) where
  -- what a fault that comes tells stands there
  abbrev Stands : Cues → Type 0
  Stands (next cue cues) = Stands cues
  Stands good = Unit {0}
  Stands (bad fault) = StandsAt bytes fault

  one_on : (at b : ℕ) (rest : List ℕ) → Behind bytes at (b ∷ rest) → (at < length bytes) × (get_or bytes at 0 ≡ b) × Behind bytes (at + 1) rest
  one_on at b rest h =
      let long : suc (length rest) ≡ length bytes - at = sym (ap length h.is) ∙ length-drop at bytes in
      let less : at < length bytes = omega (arith, long) in
      let at_0 : at ≡ at + 0 = omega arith in
      let here : get_or bytes at 0 ≡ b = ap (λ k. get_or bytes k 0) at_0 ∙ sym (get_or-drop at bytes 0 0) ∙ ap (λ xs. get_or xs 0 0) h.is in
      (less, here, record { within = omega (arith, less); is = sym (drop-drop 1 at bytes) ∙ ap (drop 1) h.is })

  ended : (at : ℕ) → Behind bytes at [] → at ≡ length bytes
  ended at h = let long : 0 ≡ length bytes - at = sym (ap length h.is) ∙ length-drop at bytes in omega (arith, h.within, long)

  number_stands : (at : ℕ) (rest : List ℕ) (go_on : ℕ → ℕ → List ℕ → Cues) → Behind bytes at rest
      → ((v o : ℕ) (r : List ℕ) → at < o → Behind bytes o r → Stands (go_on v o r)) → Stands (after (first_number at rest) go_on)
  number_stands at [] go_on h f = ended at h
  number_stands at (b ∷ rest) go_on h f = go (ltb b 128) refl
    where
      second : (rest : List ℕ) → Behind bytes (at + 1) rest → 127 < get_or bytes at 0 → Stands (after (second_byte at (b - 128) rest) go_on)
      second [] k high = ended (at + 1) k
      second (c ∷ rest) k high = by (eqb c 0) (leb 128 c) refl refl
        where
          by : (t u : Bool) → eqb c 0 ≡ t → leb 128 c ≡ u → Stands (after (cond (t || u) (Err (LongNumber at)) (Ok (b - 128 + 128 * c, at + 2, rest))) go_on)
          by true u e g = let two = one_on (at + 1) c rest k in record { two = two.0; high_bit = high; second = inl (two.1 ∙ eqb-true c 0 e) }
          by false true e g = let two = one_on (at + 1) c rest k in let above = leb-true 128 c g in record { two = two.0; high_bit = high; second = inr (omega (arith, two.1, above)) }
          by false false e g =
              let two = one_on (at + 1) c rest k in
              let on : at + 1 + 1 ≡ at + 2 = omega arith in
              f (b - 128 + 128 * c) (at + 2) rest (omega arith) (subst (λ i. Behind bytes i rest) on two.2)

      go : (t : Bool) → ltb b 128 ≡ t → Stands (after (cond t (Ok (b, at + 1, rest)) (second_byte at (b - 128) rest)) go_on)
      go true e = let one = one_on at b rest h in f b (at + 1) rest (omega arith) one.2
      go false e = let one = one_on at b rest h in let high = ltb-false b 128 e in second rest one.2 (omega (arith, one.1, high))

  within_stands : (least most at : ℕ) (rest : List ℕ) (go_on : ℕ → ℕ → List ℕ → Cues) → Behind bytes at rest
      → ((v o : ℕ) (r : List ℕ) → at < o → Behind bytes o r → Stands (go_on v o r)) → Stands (after (number_within least most at rest) go_on)
  within_stands least most at rest go_on h f =
      subst Stands (limits_after least most at (first_number at rest) go_on)
      (number_stands at rest _ h (λ v o r l k. by v o r l k (leb least v && leb v most)))
    where
      by : (v o : ℕ) (r : List ℕ) → at < o → Behind bytes o r → (t : Bool) → Stands (after (cond t (Ok (v, o, r)) (Err (BrokenRule at))) go_on)
      by v o r l k true = f v o r l k
      by v o r l k false = omega (arith, l, k.within)

  parts_stand : (n parts least at : ℕ) (rest : List ℕ) → Behind bytes at rest → Stands (parts_to_come n parts least at rest)
  parts_stand n zero least at [] h = tt
  parts_stand n zero least at (b ∷ rest) h = (one_on at b rest h).0
  parts_stand n (suc more) least at rest h =
      within_stands least 8 at rest _ h (λ tag o r l k. within_stands 0 n o r _ k (λ start o r l k. within_stands 1 (n - start) o r _ k (λ len o r l k.
      parts_stand n more (tag + 1) o r k)))

  runs_stand : (n runs from at : ℕ) (rest : List ℕ) → Behind bytes at rest → Stands (runs_to_come n runs from at rest)
  runs_stand n zero from at rest h = number_stands at rest _ h (λ parts o r l k. parts_stand n parts 1 o r k)
  runs_stand n (suc more) from at rest h =
      within_stands (least_gap from) (n - from) at rest _ h (λ gap o r l k. within_stands 1 (n - (from + gap)) o r _ k (λ len o r l k.
      runs_stand n more (from + gap + len) o r k))

  stand : (n : ℕ) → Stands (cues_of n bytes)
  stand n = number_stands 0 bytes _ (record { within = omega arith; is = refl }) (λ runs o r l k. runs_stand n runs 0 o r k)

  fault_stands : (cues : Cues) (fault : Fault) → Ends fault cues → Stands cues → StandsAt bytes fault
  fault_stands (next cue cues) fault e s = fault_stands cues fault e s
  fault_stands good fault e s = absurd e
  fault_stands (bad g) fault e s = subst (StandsAt bytes) e s

  offset_within : (fault : Fault) → StandsAt bytes fault → fault_offset fault ≤ length bytes
  offset_within (CutShort at) s = omega (arith, s)
  offset_within (LongNumber at) s = omega (arith, s.two)
  offset_within (BrokenRule at) s = omega (arith, s)

module _ (fault : Fault) where
  abbrev place : ℕ
  place = fault_offset fault

  -- a fault that comes is that the bytes end where this one stands
  abbrev YetRight : Cues → Type 0
  YetRight (next cue cues) = YetRight cues
  YetRight good = Unit {0}
  YetRight (bad g) = g ≡ CutShort place

  -- the bytes before the fault, taken alone
  number_cut : (at j : ℕ) (rest : List ℕ) (go_on : ℕ → ℕ → List ℕ → Cues) → place ≡ at + j → j ≤ length rest → Ends fault (after (first_number at rest) go_on)
      → ((v o i : ℕ) (r : List ℕ) → at < o → place ≡ o + i → i ≤ length r → Ends fault (go_on v o r) → YetRight (go_on v o (take i r)))
      → YetRight (after (first_number at (take j rest)) go_on)
  number_cut at zero rest go_on e h ends f = let same : at ≡ place = omega (arith, e) in ap CutShort same
  number_cut at (suc i) [] go_on e h ends f = absurd (omega (arith, h))
  number_cut at (suc i) (b ∷ rest) go_on e h ends f = go (ltb b 128) ends
    where
      second : (i : ℕ) (rest : List ℕ) → place ≡ at + suc i → i ≤ length rest → Ends fault (after (second_byte at (b - 128) rest) go_on)
          → YetRight (after (second_byte at (b - 128) (take i rest)) go_on)
      second zero rest e h ends = let same : at + 1 ≡ place = omega (arith, e) in ap CutShort same
      second (suc j) [] e h ends = absurd (omega (arith, h))
      second (suc j) (c ∷ rest) e h ends = by (eqb c 0 || leb 128 c) ends
        where
          by : (t : Bool) → Ends fault (after (cond t (Err (LongNumber at)) (Ok (b - 128 + 128 * c, at + 2, rest))) go_on)
              → YetRight (after (cond t (Err (LongNumber at)) (Ok (b - 128 + 128 * c, at + 2, take j rest))) go_on)
          by true ends = let here = ap fault_offset ends in absurd (omega (arith, here, e))
          by false ends = f (b - 128 + 128 * c) (at + 2) j rest (omega arith) (omega (arith, e)) (omega (arith, h)) ends

      go : (t : Bool) → Ends fault (after (cond t (Ok (b, at + 1, rest)) (second_byte at (b - 128) rest)) go_on)
          → YetRight (after (cond t (Ok (b, at + 1, take i rest)) (second_byte at (b - 128) (take i rest))) go_on)
      go true ends = f b (at + 1) i rest (omega arith) (omega (arith, e)) (omega (arith, h)) ends
      go false ends = second i rest e (omega (arith, h)) ends

  within_cut : (least most at j : ℕ) (rest : List ℕ) (go_on : ℕ → ℕ → List ℕ → Cues) → place ≡ at + j → j ≤ length rest
      → Ends fault (after (number_within least most at rest) go_on)
      → ((v o i : ℕ) (r : List ℕ) → at < o → place ≡ o + i → i ≤ length r → Ends fault (go_on v o r) → YetRight (go_on v o (take i r)))
      → YetRight (after (number_within least most at (take j rest)) go_on)
  within_cut least most at j rest go_on e h ends f =
      subst YetRight (limits_after least most at (first_number at (take j rest)) go_on)
      (number_cut at j rest _ e h (subst (Ends fault) (sym (limits_after least most at (first_number at rest) go_on)) ends) (λ v o i r l k q. by v o i r l k q (leb least v && leb v most)))
    where
      by : (v o i : ℕ) (r : List ℕ) → at < o → place ≡ o + i → i ≤ length r → (t : Bool) → Ends fault (after (cond t (Ok (v, o, r)) (Err (BrokenRule at))) go_on)
          → YetRight (after (cond t (Ok (v, o, take i r)) (Err (BrokenRule at))) go_on)
      by v o i r l k q true ends = f v o i r l k q ends
      by v o i r l k q false ends = let here = ap fault_offset ends in absurd (omega (arith, l, k, here))

  parts_cut : (n parts least at j : ℕ) (rest : List ℕ) → place ≡ at + j → j ≤ length rest → Ends fault (parts_to_come n parts least at rest)
      → YetRight (parts_to_come n parts least at (take j rest))
  parts_cut n zero least at zero rest e h ends = tt
  parts_cut n zero least at (suc j) [] e h ends = absurd (omega (arith, h))
  parts_cut n zero least at (suc j) (b ∷ rest) e h ends = let here = ap fault_offset ends in absurd (omega (arith, e, here))
  parts_cut n (suc more) least at j rest e h ends =
      within_cut least 8 at j rest _ e h ends (λ tag o i r l e h ends. within_cut 0 n o i r _ e h ends (λ start o i r l e h ends. within_cut 1 (n - start) o i r _ e h ends (λ len o i r l e h ends.
      parts_cut n more (tag + 1) o i r e h ends)))

  runs_cut : (n runs end at j : ℕ) (rest : List ℕ) → place ≡ at + j → j ≤ length rest → Ends fault (runs_to_come n runs end at rest)
      → YetRight (runs_to_come n runs end at (take j rest))
  runs_cut n zero end at j rest e h ends = number_cut at j rest _ e h ends (λ parts o i r l e h ends. parts_cut n parts 1 o i r e h ends)
  runs_cut n (suc more) end at j rest e h ends =
      within_cut (least_gap end) (n - end) at j rest _ e h ends (λ gap o i r l e h ends. within_cut 1 (n - (end + gap)) o i r _ e h ends (λ len o i r l e h ends.
      runs_cut n more (end + gap + len) o i r e h ends))

  cut : (n : ℕ) (bytes : List ℕ) → place ≤ length bytes → Ends fault (cues_of n bytes) → YetRight (cues_of n (take place bytes))
  cut n bytes h ends = number_cut 0 place bytes _ (omega arith) h ends (λ runs o i r l e h ends. runs_cut n runs 0 o i r e h ends)

  yet_right : (cues : Cues) (ms : List ℕ) (es : List (Option Part)) → YetRight cues → IfErr (filled cues ms es) (λ g. g ≡ CutShort place)
  yet_right (next (Run run) cues) ms es y = yet_right cues _ es y
  yet_right (next (TagPart one) cues) ms es y = yet_right cues ms _ y
  yet_right good ms es y = tt
  yet_right (bad g) ms es y = y

  -- and these bytes as far as the byte behind the fault's offset, whatever follows
  module _ (not_cut : (at : ℕ) → CutShort at ≢ fault) where
    -- what stands behind a number that is read
    passed : (at o : ℕ) → at < o → {E : Type 0} {X : Type 0} → (E → (o ≤ place) × X) → E → (at ≤ place) × X
    passed at o l f e = let k = f e in (omega (arith, l, k.0), k.1)

    number_kept : (at : ℕ) (rest : List ℕ) (go_on : ℕ → ℕ → List ℕ → Cues)
        → ((v o : ℕ) (r : List ℕ) → at < o → Ends fault (go_on v o r) → (at ≤ place) × ((i : ℕ) (tail : List ℕ) → place + 2 ≤ o + i → Ends fault (go_on v o (take i r ++ tail))))
        → Ends fault (after (first_number at rest) go_on)
        → (at ≤ place) × ((j : ℕ) (tail : List ℕ) → place + 2 ≤ at + j → Ends fault (after (first_number at (take j rest ++ tail)) go_on))
    number_kept at [] go_on f ends = absurd (not_cut at ends)
    number_kept at (b ∷ rest) go_on f ends = (let k = go (ltb b 128) ends in k.0, more)
      where
        second : (rest : List ℕ) → Ends fault (after (second_byte at (b - 128) rest) go_on)
            → (at ≤ place) × ((j : ℕ) (tail : List ℕ) → place + 2 ≤ at + suc j → Ends fault (after (second_byte at (b - 128) (take j rest ++ tail)) go_on))
        second [] ends = absurd (not_cut (at + 1) ends)
        second (c ∷ rest) ends = (let k = by (eqb c 0 || leb 128 c) ends in k.0, both)
          where
            by : (t : Bool) → Ends fault (after (cond t (Err (LongNumber at)) (Ok (b - 128 + 128 * c, at + 2, rest))) go_on)
                → (at ≤ place) × ((j : ℕ) (tail : List ℕ) → place + 2 ≤ at + suc (suc j) → Ends fault (after (cond t (Err (LongNumber at)) (Ok (b - 128 + 128 * c, at + 2, take j rest ++ tail))) go_on))
            by true ends = let here = ap fault_offset ends in (omega (arith, here), λ j tail h. ends)
            by false ends = let k = f (b - 128 + 128 * c) (at + 2) rest (omega arith) ends in (k.0, λ j tail h. k.1 j tail (omega (arith, h)))

            both : (j : ℕ) (tail : List ℕ) → place + 2 ≤ at + suc j → Ends fault (after (second_byte at (b - 128) (take j (c ∷ rest) ++ tail)) go_on)
            both zero tail h = let k = by (eqb c 0 || leb 128 c) ends in absurd (omega (arith, h, k.0))
            both (suc j) tail h = (by (eqb c 0 || leb 128 c) ends).1 j tail h

        go : (t : Bool) → Ends fault (after (cond t (Ok (b, at + 1, rest)) (second_byte at (b - 128) rest)) go_on)
            → (at ≤ place) × ((j : ℕ) (tail : List ℕ) → place + 2 ≤ at + suc j → Ends fault (after (cond t (Ok (b, at + 1, take j rest ++ tail)) (second_byte at (b - 128) (take j rest ++ tail))) go_on))
        go true ends = let k = f b (at + 1) rest (omega arith) ends in (k.0, λ j tail h. k.1 j tail (omega (arith, h)))
        go false ends = second rest ends

        more : (j : ℕ) (tail : List ℕ) → place + 2 ≤ at + j → Ends fault (after (first_number at (take j (b ∷ rest) ++ tail)) go_on)
        more zero tail h = let k = go (ltb b 128) ends in absurd (omega (arith, h, k.0))
        more (suc j) tail h = (go (ltb b 128) ends).1 j tail h

    within_kept : (least most at : ℕ) (rest : List ℕ) (go_on : ℕ → ℕ → List ℕ → Cues)
        → ((v o : ℕ) (r : List ℕ) → at < o → Ends fault (go_on v o r) → (at ≤ place) × ((i : ℕ) (tail : List ℕ) → place + 2 ≤ o + i → Ends fault (go_on v o (take i r ++ tail))))
        → Ends fault (after (number_within least most at rest) go_on)
        → (at ≤ place) × ((j : ℕ) (tail : List ℕ) → place + 2 ≤ at + j → Ends fault (after (number_within least most at (take j rest ++ tail)) go_on))
    within_kept least most at rest go_on f ends =
        let k = number_kept at rest _ (λ v o r l. by v o r l (leb least v && leb v most)) (subst (Ends fault) (sym (limits_after least most at (first_number at rest) go_on)) ends) in
        (k.0, λ j tail h. subst (Ends fault) (limits_after least most at (first_number at (take j rest ++ tail)) go_on) (k.1 j tail h))
      where
        by : (v o : ℕ) (r : List ℕ) → at < o → (t : Bool) → Ends fault (after (cond t (Ok (v, o, r)) (Err (BrokenRule at))) go_on)
            → (at ≤ place) × ((i : ℕ) (tail : List ℕ) → place + 2 ≤ o + i → Ends fault (after (cond t (Ok (v, o, take i r ++ tail)) (Err (BrokenRule at))) go_on))
        by v o r l true ends = f v o r l ends
        by v o r l false ends = let here = ap fault_offset ends in (omega (arith, here), λ i tail h. ends)

    parts_kept : (n parts least at : ℕ) (rest : List ℕ) → Ends fault (parts_to_come n parts least at rest)
        → (at ≤ place) × ((j : ℕ) (tail : List ℕ) → place + 2 ≤ at + j → Ends fault (parts_to_come n parts least at (take j rest ++ tail)))
    parts_kept n zero least at [] ends = absurd ends
    parts_kept n zero least at (b ∷ rest) ends = (let here = ap fault_offset ends in omega (arith, here), surplus)
      where
        surplus : (j : ℕ) (tail : List ℕ) → place + 2 ≤ at + j → Ends fault (parts_to_come n zero least at (take j (b ∷ rest) ++ tail))
        surplus zero tail h = let here = ap fault_offset ends in absurd (omega (arith, h, here))
        surplus (suc j) tail h = ends
    parts_kept n (suc more) least at rest ends =
        within_kept least 8 at rest _ (λ tag o r l. passed at o l (within_kept 0 n o r _ (λ start o' r l. passed o o' l (within_kept 1 (n - start) o' r _ (λ len o r l. passed o' o l (parts_kept n more (tag + 1) o r)))))) ends

    runs_kept : (n runs end at : ℕ) (rest : List ℕ) → Ends fault (runs_to_come n runs end at rest)
        → (at ≤ place) × ((j : ℕ) (tail : List ℕ) → place + 2 ≤ at + j → Ends fault (runs_to_come n runs end at (take j rest ++ tail)))
    runs_kept n zero end at rest ends = number_kept at rest _ (λ parts o r l. passed at o l (parts_kept n parts 1 o r)) ends
    runs_kept n (suc more) end at rest ends =
        within_kept (least_gap end) (n - end) at rest _ (λ gap o r l. passed at o l (within_kept 1 (n - (end + gap)) o r _ (λ len o' r l. passed o o' l (runs_kept n more (end + gap + len) o' r)))) ends

    kept : (n : ℕ) (bytes tail : List ℕ) → Ends fault (cues_of n bytes) → Ends fault (cues_of n (take (place + 2) bytes ++ tail))
    kept n bytes tail ends = (number_kept 0 bytes _ (λ runs o r l. passed 0 o l (runs_kept n runs 0 o r)) ends).1 (place + 2) tail (omega arith)

    none_begins : (n : ℕ) (bytes : List ℕ) → Ends fault (cues_of n bytes) → NoneBegins n bytes place
    none_begins n bytes ends = λ behind is.
        refused n (take (place + 2) bytes ++ behind) fault (filled_ends (cues_of n (take (place + 2) bytes ++ behind)) _ _ fault (kept n bytes behind ends)) is

stays : (n : ℕ) (bytes : List ℕ) (fault : Fault) → Ends fault (cues_of n bytes) → Stays n bytes fault
stays n bytes (CutShort at) ends = tt
stays n bytes (LongNumber at) ends = none_begins (LongNumber at) (λ k e. cc) n bytes ends
stays n bytes (BrokenRule at) ends = none_begins (BrokenRule at) (λ k e. cc) n bytes ends

pub first_fault : (n : ℕ) (bytes : List ℕ) (fault : Fault) → content_of n bytes ≡ Err fault → IsFirst n bytes fault
first_fault n bytes fault e =
    let ends = ends_in (cues_of n bytes) _ _ fault e in
    let here = fault_stands bytes (cues_of n bytes) fault ends (stand bytes n) in
    let m = fault_offset fault in
    let h = offset_within bytes fault here in
    let y = yet_right fault (cues_of n (take m bytes)) (replicate n 0) (replicate 8 None) (cut fault n bytes h ends) in
    record {
      stands = here;
      right_before = subst (λ k. IfErr (content_of n (take m bytes)) (λ g. g ≡ CutShort k)) (sym (length-take-le m bytes h)) y;
      stays = stays n bytes fault ends;
    }

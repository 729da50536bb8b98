-- From what the calls answer by the places to what is right in every history that leaves such a shelf.
use Rattle.std.proofs.Common.{◌≡◌, ℕ, ◌<◌, Bool, true, false, cond, List, ◌∷◌, length, Some, None, Ok, Err, Option, Result, nat_lt, slice_set, sym, refl, ap, ◌∙◌, subst, inl, inr}
use Rattle.std.proofs.Math.ListN.{length-set}
use Rattle.std.proofs.lemmas.Bool.{eq-eqb, ltb-true}
use Rattle.std.proofs.lemmas.Bool.Decides.{eqb_tells}
use Rattle.std.proofs.lemmas.Grind.{get_or-set_at}
use Rattle.std.proofs.lemmas.List.{get_or-set_other}
use Rattle.std.specs.declared.cmp.Ordering.{Ordering}
use Rattle.pattern.specs.declared.fault.Fault.{Fault}
use Rattle.pattern.specs.declared.kept.Pattern.{Pattern}
use Rattle.pattern.specs.Expressions.{Syntax}
use Rattle.pattern.specs.Scanning.{syntax_of}
use Rattle.pattern.specs.Tokens.{Reading, SameReading}
use Rattle.pattern.proofs.Alike.{same_syntax}
use Rattle.sheet.specs.declared.Part.{Part}
use Rattle.shelf.specs.declared.Shelf.{Shelf}
use Rattle.shelf.specs.declared.refusal.Refusal.{Refusal}
use Rattle.shelf.specs.declared.refusal.Refusal.TheVariants.{NoSuchPlace, PlaceTaken, PlaceBare}
use Rattle.shelf.specs.Filing.{unlawful, filing_in, filing, counts, FiledAfter}
use Rattle.shelf.specs.Histories.{Act, a_filing, a_longest_call, a_marking, a_splitting, with_at, put_if_lawful, after_filing, register_of, Changed, CarriedOutExactly, FilingRight, LongestRight, MarkingRight, SplittingRight, AsLeftBy, InEveryHistory}
use Rattle.shelf.specs.Places.{Register, held, held_at, standing_in, standing}
use Rattle.shelf.specs.Reports.{for_line, asked_in, asked, with_room, LongestBy, MarksBy}
use Rattle.shelf.specs.Splits.{for_split, asked_split, SplitBy}

-- the places hold what the register has
abbrev Holds : List (Option Pattern) → Register → Type 0
Holds places register = (k : ℕ) → held_at places k ≡ register k

standing_same : (places : List (Option Pattern)) (m : Register) → Holds places m → (place : ℕ) → standing places place ≡ standing_in m place
standing_same places m holds place = ap (λ o. cond (nat_lt place 10) (elim o as (λ _. Result Syntax Refusal) [ None ↦ Err PlaceBare | Some x ↦ Ok x ]) (Err NoSuchPlace)) (holds place)

asked_same : (places : List (Option Pattern)) (m : Register) → Holds places m → (place symbols : ℕ) → asked places place symbols ≡ asked_in m place symbols
asked_same places m holds place symbols = ap (λ r. for_line r symbols) (standing_same places m holds place)

filing_same : (r r' : Reading) → SameReading r r' → (places : List (Option Pattern)) (m : Register) → Holds places m → (place : ℕ) (bytes : List ℕ) → filing r places place bytes ≡ filing_in r' m place bytes
filing_same r r' same places m holds place bytes =
    ap (λ s. cond (nat_lt place 10) (elim (held_at places place) as (λ _. Result Syntax Refusal) [ None ↦ unlawful s | Some x ↦ Err PlaceTaken ]) (Err NoSuchPlace)) (same_syntax r r' same bytes)
    ∙ ap (λ o. cond (nat_lt place 10) (elim o as (λ _. Result Syntax Refusal) [ None ↦ unlawful (syntax_of r' bytes) | Some x ↦ Err PlaceTaken ]) (Err NoSuchPlace)) (holds place)

-- one place has something else
set_at : (was : List (Option Pattern)) (m : Register) → Holds was m → (place : ℕ) (it : Option Pattern) → place < length was → Holds (slice_set was place it) (with_at m place (held it))
set_at was m holds place it within k = elim (eqb_tells k place) [
  | inl e ↦ ap held (get_or-set_at was place k it None e.1 within) ∙ sym (ap (λ b. cond b (held it) (m k)) e.0)
  | inr n ↦ ap held (get_or-set_other was place k it None n.1) ∙ holds k ∙ sym (ap (λ b. cond b (held it) (m k)) n.0)
]

-- a register changes where it is given what it had not
given : (m : Register) (place : ℕ) (x : Syntax) → m place ≡ None → Changed m (with_at m place (Some x))
given m place x bare = record { place = place; otherwise = λ e. let here : with_at m place (Some x) place ≡ Some x = ap (λ b. cond b (Some x) (m place)) (eq-eqb place place refl) in let no : ◌≡◌ {A = Option Syntax} None (Some x) = sym bare ∙ sym e ∙ here in cc }

module _ (r' : Reading) (was is : List (Option Pattern)) (m : Register) (long : length was ≡ 10) (holds : Holds was m) (place : ℕ) (bytes : List ℕ) where
  -- what a filing leaves, by what it is asked
  filed_by : (b : Bool) (o : Option Syntax) (s : Result Syntax Fault) → nat_lt place 10 ≡ b
      → FiledAfter (cond b (elim o as (λ _. Result Syntax Refusal) [ None ↦ unlawful s | Some x ↦ Err PlaceTaken ]) (Err NoSuchPlace)) place was is
      → Holds is (cond b (elim o as (λ _. Register) [ None ↦ put_if_lawful m place s | Some x ↦ m ]) m)
  filed_by true None (Ok x) e h = λ k. ap (λ l. held_at l k) h.2 ∙ set_at was m holds place (Some h.0) (subst (λ n. place < n) (sym long) (ltb-true place 10 e)) k ∙ ap (λ y. with_at m place (Some y) k) h.1
  filed_by true None (Err f) e h = λ k. ap (λ l. held_at l k) h ∙ holds k
  filed_by true (Some x) s e h = λ k. ap (λ l. held_at l k) h ∙ holds k
  filed_by false o s e h = λ k. ap (λ l. held_at l k) h ∙ holds k

  filed : FiledAfter (filing_in r' m place bytes) place was is → Holds is (after_filing r' m place bytes)
  filed h = filed_by (nat_lt place 10) (m place) (syntax_of r' bytes) refl h

-- a filing is carried out exactly when it changes the register
filed_exactly_by : (m : Register) (place : ℕ) (b : Bool) (o : Option Syntax) (s : Result Syntax Fault) → m place ≡ o
    → CarriedOutExactly m (cond b (elim o as (λ _. Register) [ None ↦ put_if_lawful m place s | Some x ↦ m ]) m) (counts (cond b (elim o as (λ _. Result Syntax Refusal) [ None ↦ unlawful s | Some x ↦ Err PlaceTaken ]) (Err NoSuchPlace)))
filed_exactly_by m place true None (Ok x) e = given m place x e
filed_exactly_by m place true None (Err f) e = λ k. refl
filed_exactly_by m place true (Some x) s e = λ k. refl
filed_exactly_by m place false o s e = λ k. refl

filed_exactly : (r : Reading) (m : Register) (place : ℕ) (bytes : List ℕ) → CarriedOutExactly m (after_filing r m place bytes) (counts (filing_in r m place bytes))
filed_exactly r m place bytes = filed_exactly_by m place (nat_lt place 10) (m place) (syntax_of r bytes) refl

-- there are as many places as before
kept_long : (place : ℕ) (was is : List (Option Pattern)) (r : Result Syntax Refusal) → FiledAfter r place was is → length is ≡ length was
kept_long place was is (Ok x) h = ap length h.2 ∙ length-set was place (Some h.0)
kept_long place was is (Err f) h = ap length h

module _ {N S : Type 0} (meaning : N → ℕ → S → Bool) (reading : N → Reading) where
  pub filing_in_history : (was is : Shelf N S) (place : ℕ) (bytes : List ℕ) (result : Result (ℕ × ℕ) Refusal)
      → result ≡ counts (filing (reading was.notation) was.places place bytes)
      → FiledAfter (filing (reading was.notation) was.places place bytes) place was.places is.places
      → meaning is.notation ≡ meaning was.notation
      → SameReading (reading is.notation) (reading was.notation)
      → InEveryHistory meaning reading was is (a_filing place bytes) (λ n register. FilingRight (reading n) register place bytes result)
  filing_in_history was is place bytes result answered after means reads = λ n acts led.
      let m = register_of (reading n) acts in
      let same = filing_same (reading was.notation) (reading n) led.reads was.places m led.holds place bytes in
      let answer : result ≡ counts (filing_in (reading n) m place bytes) = answered ∙ ap counts same in
      let stands = subst (λ r. FiledAfter r place was.places is.places) same after in (
        record { carried_out = subst (CarriedOutExactly m (after_filing (reading n) m place bytes)) (sym answer) (filed_exactly (reading n) m place bytes); answer = answer },
        record {
          means = means ∙ led.means;
          reads = λ bs h. reads bs h ∙ led.reads bs h;
          ten = kept_long place was.places is.places (filing_in (reading n) m place bytes) stands ∙ led.ten;
          holds = filed (reading n) was.places is.places m led.ten led.holds place bytes stands;
        },
      )

  -- a call that leaves the register and the shelf as they were
  leaves : (shelf : Shelf N S) (n : N) (acts : List (Act S)) (act : Act S) → register_of (reading n) (act ∷ acts) ≡ register_of (reading n) acts → AsLeftBy meaning reading n acts shelf → AsLeftBy meaning reading n (act ∷ acts) shelf
  leaves shelf n acts act e led = record { means = led.means; reads = led.reads; ten = led.ten; holds = λ k. led.holds k ∙ sym (ap (λ m. m k) e) }

  pub longest_in_history : (shelf : Shelf N S) (place : ℕ) (line : List S) (result : Result (ℕ × ℕ) Refusal)
      → LongestBy (meaning shelf.notation) (asked shelf.places place (length line)) line result
      → InEveryHistory meaning reading shelf shelf (a_longest_call place line) (λ n register. LongestRight (meaning n) register place line result)
  longest_in_history shelf place line result by = λ n acts led.
      let m = register_of (reading n) acts in (
        subst (λ f. LongestBy f (asked_in m place (length line)) line result) led.means (subst (λ r. LongestBy (meaning shelf.notation) r line result) (asked_same shelf.places m led.holds place (length line)) by),
        leaves shelf n acts (a_longest_call place line) refl led,
      )

  pub marking_in_history : (shelf : Shelf N S) (place : ℕ) (line : List S) (before after : List ℕ) (result : Result ℕ Refusal)
      → MarksBy (meaning shelf.notation) (with_room (asked shelf.places place (length line)) (length line) (length before)) line before after result
      → InEveryHistory meaning reading shelf shelf (a_marking place line (length before)) (λ n register. MarkingRight (meaning n) register place line before after result)
  marking_in_history shelf place line before after result by = λ n acts led.
      let m = register_of (reading n) acts in (
        subst (λ f. MarksBy f (with_room (asked_in m place (length line)) (length line) (length before)) line before after result) led.means (subst (λ r. MarksBy (meaning shelf.notation) (with_room r (length line) (length before)) line before after result) (asked_same shelf.places m led.holds place (length line)) by),
        leaves shelf n acts (a_marking place line (length before)) refl led,
      )

  pub splitting_in_history : {M : Type 0} (start : M) (stepped : M → ℕ → M) (compared : M → M → Ordering) (shelf : Shelf N S) (place : ℕ) (line : List S) (left right work_room : ℕ) (before after : List ℕ) (was is : List (Option Part)) (result : Result (Unit {0}) Refusal)
      → SplitBy start stepped compared (meaning shelf.notation) (asked_split shelf.places place (length line) left right (length before) work_room) line left right before after was is result
      → InEveryHistory meaning reading shelf shelf (a_splitting place line left right (length before) work_room) (λ n register. SplittingRight start stepped compared (meaning n) register place line left right work_room before after was is result)
  splitting_in_history start stepped compared shelf place line left right work_room before after was is result by = λ n acts led.
      let m = register_of (reading n) acts in
      let form = λ (r : Result Syntax Refusal). for_split r (length line) left right (length before) work_room in (
        subst (λ f. SplitBy start stepped compared f (form (asked_in m place (length line))) line left right before after was is result) led.means
            (subst (λ r. SplitBy start stepped compared (meaning shelf.notation) (form r) line left right before after was is result) (asked_same shelf.places m led.holds place (length line)) by),
        leaves shelf n acts (a_splitting place line left right (length before) work_room) refl led,
      )

-- The pieces in which a line is read.
use Rattle.std.proofs.Common.{◌≡◌, ◌↔◌, ℕ, suc, ◌+◌, ◌<◌, ◌≤◌, Bool, true, false, true≢false, cond, eqb, nat_lt, List, [], ◌∷◌, ◌++◌, length, take, drop, None, Some, IfSome, refl, sym, ap, subst, ◌∙◌, arith, append-nil, length-append}
use Rattle.std.proofs.lemmas.Bool.{lt-ltb}
use Rattle.std.proofs.lemmas.Grind.{common_steps}
use Rattle.std.proofs.Math.Seq.{take-append_seam, drop-append_seam, drop-length}
use Rattle.std.proofs.KnownBytes.{Consumes-trans}
use Rattle.std.proofs.BufReadLemmas.{Consumes_shown}
use Rattle.std.specs.declared.option.Option.{Option}
use Rattle.std.specs.Bool.{then_some}
use Rattle.std.specs.Option.{is_some}
use Rattle.std.specs.Io.{StartsWith}
use Rattle.std.specs.Io.BufRead.{DropsConsumable}
use Rattle.std.specs.Io.KnownBytes.{Keeps, Consumes, IsAtEnd, prepend_known}
use Rattle.text.proofs.Takes.{take_twice}
use Rattle.text.specs.Lines.{front, through, ends, CutsAnywhere}
use Rattle.line_input.specs.declared.Ending.{Ending}
use Rattle.line_input.specs.declared.Ending.TheVariants.{LineFeed, EndOfInput}

-- the bytes up to and with the first line feed, or all
pub record Piece (s : List ℕ) : Type 0 where
  part : List ℕ
  rest : List ℕ
  split : s ≡ part ++ rest
  ended : ends part ≡ ends s
  same : front part ≡ front s
  all : through part ≡ length part
  long : length part ≡ through s

through_next : (b : ℕ) (s : List ℕ) → eqb b 10 ≡ false → (t : Bool) → ends s ≡ t → through (b ∷ s) ≡ suc (through s)
through_next b s e true f = grind (arith, common_steps, e, f)
through_next b s e false f = grind (arith, common_steps, e, f)

pub piece : (s : List ℕ) → Piece s
piece [] = record { part = []; rest = []; split = refl; ended = refl; same = refl; all = refl; long = refl }
piece (b ∷ bs) = go (eqb b 10) refl (piece bs)
  where
    go : (t : Bool) → eqb b 10 ≡ t → Piece bs → Piece (b ∷ bs)
    go true e w = record { part = b ∷ []; rest = bs; split = refl; ended = grind (arith, e); same = grind (arith, e); all = grind (arith, common_steps, e); long = grind (arith, common_steps, e) }
    go false e w = record {
      part = b ∷ w.part;
      rest = w.rest;
      split = ap (λ l. b ∷ l) w.split;
      ended = ap (cond (eqb b 10) true) w.ended;
      same = ap (λ l. cond (eqb b 10) [] (b ∷ l)) w.same;
      all = through_next b w.part e _ refl ∙ ap suc w.all;
      long = ap suc w.long ∙ sym (through_next b bs e _ refl);
    }

-- what comes after the line feed is no part of the line
ended_before : (a b : List ℕ) → ends a ≡ true → (front (a ++ b) ≡ front a) × (ends (a ++ b) ≡ true)
ended_before [] b e = absurd (true≢false (sym e))
ended_before (x ∷ a) b e = go (eqb x 10) refl e (ended_before a b)
  where
    go : (t : Bool) → eqb x 10 ≡ t → cond t true (ends a) ≡ true → (ends a ≡ true → (front (a ++ b) ≡ front a) × (ends (a ++ b) ≡ true))
        → (front (x ∷ a ++ b) ≡ front (x ∷ a)) × (ends (x ∷ a ++ b) ≡ true)
    go true n _ below = (grind (arith, n), grind (arith, n))
    go false n e below = let w = below e in (grind (arith, n, w.0), grind (arith, n, w.1))

-- A chunk of n bytes, which ends with the line's line feed if `ended` says so and has none else, was the first of the
-- input, and is gone from it; its front is held besides what was held. Only at the input's end has it no bytes.
abbrev pub TakesChunk : ℕ → Option (List ℕ) → Option (List ℕ) → List ℕ → List ℕ → ℕ → Bool → Type 0
TakesChunk most old new before after n ended =
    (chunk : List ℕ) × (length chunk ≡ n) × (ends chunk ≡ ended) × (through chunk ≡ n)
    × (after ≡ take most (before ++ front chunk)) × Consumes old new chunk × (n ≡ 0 → IsAtEnd old)

-- what a reader holds is the first of what it has left
pub held_first : (unknown : Bool) (bs : List ℕ) (rest : Option (List ℕ)) → IfSome (cond unknown None (prepend_known bs rest)) (λ xs. StartsWith xs bs)
held_first true bs rest = tt
held_first false bs None = tt
held_first false bs (Some xs) = take-append_seam bs xs

-- and so it is of what it had left before, of which nothing is lost
first_kept : (a b : Option (List ℕ)) (bs : List ℕ) → Keeps a b → IfSome b (λ xs. StartsWith xs bs) → IfSome a (λ xs. StartsWith xs bs)
first_kept None b bs kept h = tt
first_kept (Some x) None bs kept h = absurd kept
first_kept (Some x) (Some y) bs kept h = subst (λ l. StartsWith l bs) kept h

none_held : (a : Option (List ℕ)) (bs : List ℕ) → (bs ≡ [] → IsAtEnd a) → IfSome a (λ xs. length bs ≡ 0 → xs ≡ [])
none_held None bs end = tt
none_held (Some x) [] end = λ _. end refl
none_held (Some x) (b ∷ bs) end = λ none. absurd (omega (arith, none))

all_held : (a : Option (List ℕ)) (n : ℕ) → IfSome a (λ _. n ≤ n)
all_held None n = tt
all_held (Some x) n = omega arith

no_through : (s : List ℕ) (t : Bool) → ends s ≡ t → through s ≡ 0 → s ≡ []
no_through [] t e z = refl
no_through (b ∷ s) true e z = absurd (omega (arith, z, ap (λ t. cond t (length (front (b ∷ s)) + 1) (length (b ∷ s))) e))
no_through (b ∷ s) false e z = absurd (omega (arith, z, ap (λ t. cond t (length (front (b ∷ s)) + 1) (length (b ∷ s))) e))

-- no bytes are taken only where none are held
pub none_taken : (s : List ℕ) → through s ≡ 0 → s ≡ []
none_taken s z = no_through s (ends s) refl z

-- where no line ends, all is taken
pub all_taken : (s : List ℕ) → ends s ≡ false → drop (through s) s ≡ []
all_taken s e = ap (λ t. drop (cond t (length (front s) + 1) (length s)) s) e ∙ drop-length s

-- a line that is held is some bytes
pub line_held : (s : List ℕ) → ends s ≡ true → nat_lt 0 (length s) ≡ true
line_held [] e = absurd (true≢false (sym e))
line_held (b ∷ s) e = lt-ltb 0 (length (b ∷ s)) (omega arith)

-- input that is held, of which what stands up to its line feed is taken
pub takes : (most : ℕ) (a b c : Option (List ℕ)) (shown before after : List ℕ)
    → IfSome b (λ xs. StartsWith xs shown) → (shown ≡ [] → IsAtEnd a) → Keeps a b → DropsConsumable b c (Some (length shown)) (through shown)
    → after ≡ take most (before ++ front shown) → TakesChunk most a c before after (through shown) (ends shown)
takes most a b c shown before after first end kept drops holds =
    let p = piece shown in
    let within : through shown ≤ length shown = omega (arith, p.long, ap length p.split, length-append p.part p.rest) in
    let cut : take (through shown) shown ≡ p.part = ap (take (through shown)) p.split ∙ ap (λ k. take k (p.part ++ p.rest)) (sym p.long) ∙ take-append_seam p.part p.rest in
    let moved = Consumes_shown a b c (Some (length shown)) shown (through shown) within (first_kept a b shown kept first) (none_held a shown end) kept (all_held a (length shown)) drops in (
      p.part,
      p.long,
      p.ended,
      p.all ∙ p.long,
      holds ∙ ap (λ l. take most (before ++ l)) (sym p.same),
      subst (Consumes a c) cut moved.0,
      λ zero. end (none_taken shown zero),
    )

-- what a line that was read is to the input before, and whether that had a line feed
abbrev pub Reads : ℕ → Option (List ℕ) → Option (List ℕ) → List ℕ → Bool → Bool → Type 0
Reads most a c after there feed =
    IfSome a (λ xs. after ≡ take most (front xs)) × IfSome a (λ xs. there ≡ nat_lt 0 (length xs)) × IfSome a (λ xs. c ≡ Some (drop (through xs) xs))
    × IfSome a (λ xs. ends xs ≡ feed)

abbrev by_feed : Option Ending → Bool
by_feed (Some LineFeed) = true
by_feed (Some EndOfInput) = false
by_feed None = false

-- what no line feed ended is not said to be ended by one
pub no_feed : (there : Bool) (a : Option (List ℕ)) → IfSome a (λ xs. ends xs ≡ false) → IfSome a (λ xs. (then_some there EndOfInput ≡ Some LineFeed) ↔ (ends xs ≡ true))
no_feed there None e = tt
no_feed true (Some xs) e = (λ u. absurd (true≢false (sym (ap by_feed u))), λ t. absurd (true≢false (sym t ∙ e)))
no_feed false (Some xs) e = (λ u. absurd (true≢false (sym (ap by_feed u))), λ t. absurd (true≢false (sym t ∙ e)))

-- what a line feed ended is said to be so
pub some_feed : (a : Option (List ℕ)) → IfSome a (λ xs. ends xs ≡ true) → IfSome a (λ xs. (Some LineFeed ≡ Some LineFeed) ↔ (ends xs ≡ true))
some_feed None e = tt
some_feed (Some xs) e = (λ _. e, λ _. refl)

pub is_there : (there : Bool) (ending : Ending) → is_some (then_some there ending) ≡ there
is_there true ending = refl
is_there false ending = refl

-- chunks with no line feed, and then one that has it
pub line_ended : (most : ℕ) (a b c : Option (List ℕ)) (done chunk after : List ℕ) → CutsAnywhere most → Consumes a b done → Consumes b c chunk
    → ends done ≡ false → ends chunk ≡ true → through chunk ≡ length chunk → after ≡ take most (take most (front done) ++ front chunk) → Reads most a c after true true
line_ended most a b c done chunk after cuts p q unended ended all holds = at a c (Consumes-trans a b c done chunk p q)
  where
    cut : (take most (take most (front done) ++ front chunk) ≡ take most (front (done ++ chunk))) × (length done + through chunk ≡ through (done ++ chunk)) × (ends chunk ≡ ends (done ++ chunk))
    cut = cuts [] done chunk unended

    at : (a c : Option (List ℕ)) → Consumes a c (done ++ chunk) → Reads most a c after true true
    at None c h = (tt, tt, tt, tt)
    at (Some x) None h = absurd h
    at (Some x) (Some z) h =
        let last : ends (done ++ chunk) ≡ true = sym cut.2 ∙ ended in
        let more = ended_before (done ++ chunk) z last in
        let whole : through (done ++ chunk) ≡ length (done ++ chunk) = omega (arith, cut.1, all, length-append done chunk) in
        let long : through (done ++ chunk ++ z) ≡ length (done ++ chunk) =
        ap (λ b. cond b (length (front (done ++ chunk ++ z)) + 1) (length (done ++ chunk ++ z))) more.1 ∙ ap (λ l. length l + 1) more.0
        ∙ sym (ap (λ b. cond b (length (front (done ++ chunk)) + 1) (length (done ++ chunk))) last) ∙ whole in
        let some : 0 < length x = omega (arith, ap length h, length-append (done ++ chunk) z, whole, ap (λ b. cond b (length (front (done ++ chunk)) + 1) (length (done ++ chunk))) last) in (
          holds ∙ cut.0 ∙ ap (take most) (sym more.0 ∙ ap front (sym h)),
          sym (lt-ltb 0 (length x) some),
          ap Some (sym (ap (λ l. drop (through l) l) h ∙ ap (λ k. drop k (done ++ chunk ++ z)) long ∙ drop-append_seam (done ++ chunk) z)),
          ap ends h ∙ more.1,
        )

-- chunks with no line feed, and then the input's end
pub input_ended : (most : ℕ) (a b c : Option (List ℕ)) (done chunk after : List ℕ) → Consumes a b done → Consumes b c chunk → IsAtEnd b
    → ends done ≡ false → length chunk ≡ 0 → after ≡ take most (take most (front done) ++ front chunk) → Reads most a c after (nat_lt 0 (length done)) false
input_ended most None b c done chunk after p q end unended none holds = (tt, tt, tt, tt)
input_ended most (Some x) None c done chunk after p q end unended none holds = absurd p
input_ended most (Some x) (Some y) None done chunk after p q end unended none holds = absurd q
input_ended most (Some x) (Some y) (Some z) done (k ∷ ks) after p q end unended none holds = absurd (omega (arith, none))
input_ended most (Some x) (Some y) (Some z) done [] after p q end unended none holds =
    let whole : x ≡ done = p ∙ ap (λ l. done ++ l) end ∙ append-nil done in
    let long : through x ≡ length x = ap through whole ∙ ap (λ b. cond b (length (front done) + 1) (length done)) unended ∙ ap length (sym whole) in (
      holds ∙ take_twice most (front done) [] ∙ ap (take most) (append-nil (front done) ∙ ap front (sym whole)),
      ap (λ l. nat_lt 0 (length l)) (sym whole),
      ap Some (sym q ∙ end ∙ sym (ap (λ k. drop k x) long ∙ drop-length x)),
      ap ends whole ∙ unended,
    )

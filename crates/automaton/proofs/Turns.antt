-- One turn over the groups.
use Rattle.std.proofs.Common.{◌≡◌, ℕ, ◌+◌, ◌-◌, ◌^◌, ◌<◌, ◌≤◌, ◌⊎◌, List, length, get_or, set, sym, refl, ap, ◌∙◌, subst, inl, inr, arith, length-set, get_or-set_other, get_or-set_same}
use lib.Bits.{bit_and, bit_or, or_lt, and_le_l, and_le_r}
use Rattle.std.proofs.lemmas.Bool.{cases_lt}
use Rattle.automaton.specs.declared.machine.Automaton.{Automaton}
use Rattle.automaton.specs.declared.sweep.Active.{Active}
use Rattle.automaton.specs.Bit.{In}
use Rattle.automaton.specs.Tracks.{After, begin, step, Tracks}
use Rattle.automaton.proofs.Bits.{in_and, and_in, in_or, or_in, in_not, not_in, asked, in_zero}

-- a position is reached after i + 1 symbols where the walk begins at i, or by a step from one that is reached after i
pub reached : (a : Automaton) (rows : List ℕ) (l i q : ℕ) → After a rows l (i + 1) q
    → ((l ≡ i) × In a.first q × In (get_or rows i 0) q) ⊎ ((p : ℕ) × After a rows l i p × In (get_or a.follow p 0) q × In (get_or rows i 0) q)
reached a rows l i q (begin e h f r) = let s : l ≡ i = omega arith in inl (s, f, subst (λ n. In (get_or rows n 0) q) s r)
reached a rows l i q (step {j = j} {p = p} w e h f r) =
    let s : j ≡ i = omega arith in
    inr (p, subst (λ n. After a rows l n p) s w, f, subst (λ n. In (get_or rows n 0) q) s r)

pub later : (a : Automaton) (rows : List ℕ) (l i q : ℕ) → After a rows l i q → (l < i) × (i ≤ length rows)
later a rows l i q (begin e h f r) = (omega arith, omega arith)
later a rows l i q (step {j = j} {p = p} w e h f r) = let k = later a rows l j p w in (omega arith, omega arith)

-- the positions of a set that are not taken yet
pub fresh_is : (out row taken q : ℕ) → taken < 2 ^ 64 → In (bit_and (bit_and out row) (2 ^ 64 - 1 - taken)) q → In out q × In row q × (In taken q → ⊥)
fresh_is out row taken q t e = let b = in_and e in let d = in_and b.0 in (d.0, d.1, in_not t b.1)

pub fresh_or : (out row taken q : ℕ) → row < 2 ^ 64 → taken < 2 ^ 64 → In out q → In row q → In (bit_and (bit_and out row) (2 ^ 64 - 1 - taken)) q ⊎ In taken q
fresh_or out row taken q r t o i = elim (asked taken q) [ inl y ↦ inr y | inr f ↦ inl (and_in (and_in o i) (not_in r t i f)) ]

-- groups that are written
pub record Part (a : Automaton) (rows : List ℕ) (i : ℕ) (starts sets : List ℕ) (kept taken : ℕ) : Type 0 where
  pub rising : (j m : ℕ) → j < m → m < kept → get_or starts j 0 ≤ get_or starts m 0
  pub begun : (j : ℕ) → j < kept → get_or starts j 0 < i + 1
  pub sound : (j q : ℕ) → j < kept → In (get_or sets j 0) q → After a rows (get_or starts j 0) (i + 1) q
  pub held : (q : ℕ) → In taken q → (m : ℕ) × (m < kept) × In (get_or sets m 0) q
  pub all : (j q : ℕ) → j < kept → In (get_or sets j 0) q → In taken q
  pub apart : (j m q : ℕ) → j < m → m < kept → In (get_or sets j 0) q → In (get_or sets m 0) q → ⊥
  pub fit : taken < 2 ^ 64

old : (xs : List ℕ) (kept v j : ℕ) → j < kept → get_or (set xs kept v) j 0 ≡ get_or xs j 0
old xs kept v j h = get_or-set_other xs kept j v 0 (λ e. omega arith)

new : (xs : List ℕ) (kept v : ℕ) → kept < length xs → get_or (set xs kept v) kept 0 ≡ v
new xs kept v h = get_or-set_same xs kept v 0 h

same_or : (j kept : ℕ) → j < kept + 1 → (j < kept) ⊎ (j ≡ kept)
same_or j kept h = elim (cases_lt j kept) [ inl l ↦ inl l | inr g ↦ inr (omega arith) ]

pub push : (a : Automaton) (rows : List ℕ) (i : ℕ) (starts sets : List ℕ) (kept taken start next : ℕ) → kept < length starts → kept < length sets
    → Part a rows i starts sets kept taken → ((j : ℕ) → j < kept → get_or starts j 0 ≤ start) → start < i + 1
    → ((q : ℕ) → In next q → After a rows start (i + 1) q) → ((q : ℕ) → In next q → In taken q → ⊥) → next < 2 ^ 64
    → Part a rows i (set starts kept start) (set sets kept next) (kept + 1) (bit_or taken next)
push a rows i starts sets kept taken start next hs ht part low young sound free fit = record {
  rising = λ j m lt h.
      let j_old = old starts kept start j (omega arith) in
      elim (same_or m kept h) [
        | inl l ↦ omega (arith, j_old, old starts kept start m l, part.rising j m lt l)
        | inr e ↦ (let here : get_or (set starts kept start) m 0 ≡ start = ap (λ n. get_or (set starts kept start) n 0) e ∙ new starts kept start hs in omega (arith, j_old, here, low j (omega arith)))
      ];
  begun = λ j h. elim (same_or j kept h) [
    | inl l ↦ omega (arith, old starts kept start j l, part.begun j l)
    | inr e ↦ (let here : get_or (set starts kept start) j 0 ≡ start = ap (λ n. get_or (set starts kept start) n 0) e ∙ new starts kept start hs in omega arith)
  ];
  sound = λ j q h e. elim (same_or j kept h) [
    | inl l ↦ subst (λ s. After a rows s (i + 1) q) (sym (old starts kept start j l)) (part.sound j q l (subst (λ x. In x q) (old sets kept next j l) e))
    | inr s ↦
        (let here : get_or (set starts kept start) j 0 ≡ start = ap (λ n. get_or (set starts kept start) n 0) s ∙ new starts kept start hs in
        let there : get_or (set sets kept next) j 0 ≡ next = ap (λ n. get_or (set sets kept next) n 0) s ∙ new sets kept next ht in
        subst (λ x. After a rows x (i + 1) q) (sym here) (sound q (subst (λ x. In x q) there e)))
  ];
  held = λ q e. elim (in_or e) [
    | inl t ↦ (let m = part.held q t in (m.0, omega (arith, m.1), subst (λ x. In x q) (sym (old sets kept next m.0 m.1)) m.2))
    | inr n ↦ (kept, omega arith, subst (λ x. In x q) (sym (new sets kept next ht)) n)
  ];
  all = λ j q h e. elim (same_or j kept h) [
    | inl l ↦ or_in (inl (part.all j q l (subst (λ x. In x q) (old sets kept next j l) e)))
    | inr s ↦ or_in (inr (subst (λ x. In x q) (ap (λ n. get_or (set sets kept next) n 0) s ∙ new sets kept next ht) e))
  ];
  apart = λ j m q lt h e f.
      let before = subst (λ x. In x q) (old sets kept next j (omega arith)) e in
      elim (same_or m kept h) [
        | inl l ↦ part.apart j m q lt l before (subst (λ x. In x q) (old sets kept next m l) f)
        | inr s ↦ free q (subst (λ x. In x q) (ap (λ n. get_or (set sets kept next) n 0) s ∙ new sets kept next ht) f) (part.all j q (omega arith) before)
      ];
  fit = or_lt 64 taken next part.fit fit;
}

-- the groups of g before k are read, and those that are written stand before kept
pub record Turn (a : Automaton) (rows : List ℕ) (i : ℕ) (g : Active) (starts sets : List ℕ) (k kept taken : ℕ) : Type 0 where
  pub part : Part a rows i starts sets kept taken
  pub few : kept ≤ k
  pub starts_long : length starts ≡ 160
  pub sets_long : length sets ≡ 160
  pub starts_left : (j : ℕ) → k ≤ j → get_or starts j 0 ≡ get_or g.starts j 0
  pub sets_left : (j : ℕ) → k ≤ j → get_or sets j 0 ≡ get_or g.sets j 0
  pub low : (j m : ℕ) → j < kept → k ≤ m → m < g.count → get_or starts j 0 ≤ get_or g.starts m 0
  pub done : (j p q : ℕ) → j < k → In (get_or g.sets j 0) p → In (get_or a.follow p 0) q → In (get_or rows i 0) q
      → (m : ℕ) × (m < kept) × (get_or starts m 0 ≤ get_or g.starts j 0) × In (get_or sets m 0) q

module _ (a : Automaton) (rows : List ℕ) (i : ℕ) (g : Active) (starts sets : List ℕ) (k kept taken : ℕ) (t : Turn a rows i g starts sets k kept taken)
    (tr : Tracks a rows i g) (hi : i < length rows) (short : length rows ≤ 160) (fit : get_or rows i 0 < 2 ^ 64) where
  -- a group that is read
  module _ (hk : k < g.count) (out : ℕ) (os : (q : ℕ) → In out q → (p : ℕ) × In (get_or sets k 0) p × In (get_or a.follow p 0) q)
      (oc : (p q : ℕ) → In (get_or sets k 0) p → In (get_or a.follow p 0) q → In out q) where
    abbrev start : ℕ
    start = get_or starts k 0

    abbrev next : ℕ
    next = bit_and (bit_and out (get_or rows i 0)) (2 ^ 64 - 1 - taken)

    was : start ≡ get_or g.starts k 0
    was = t.starts_left k (omega arith)

    walks : (q : ℕ) → In next q → After a rows start (i + 1) q
    walks q e =
        let b = fresh_is out (get_or rows i 0) taken q t.part.fit e in
        let p = os q b.0 in
        let before : After a rows start i p.0 = subst (λ s. After a rows s i p.0) (sym was) (tr.sound k p.0 hk (subst (λ x. In x p.0) (t.sets_left k (omega arith)) p.1)) in
        step before refl hi p.2 b.1

    next_fit : next < 2 ^ 64
    next_fit = omega (arith, and_le_l (bit_and out (get_or rows i 0)) (2 ^ 64 - 1 - taken), and_le_r out (get_or rows i 0))

    pub some : Turn a rows i g (set starts kept start) (set sets kept next) (k + 1) (kept + 1) (bit_or taken next)
    some =
        let n = start in
        let room : kept < 160 = omega (arith, tr.few, t.few) in
        let rs : kept < length starts = omega (arith, t.starts_long) in
        let rt : kept < length sets = omega (arith, t.sets_long) in record {
          part = push a rows i starts sets kept taken start next rs rt t.part (λ j h. omega (arith, was, t.low j k h (omega arith) hk)) (omega (arith, was, tr.begun k hk)) walks (λ q e. (fresh_is out (get_or rows i 0) taken q t.part.fit e).2) next_fit;
          few = omega (arith, t.few);
          starts_long = length-set starts kept start ∙ t.starts_long;
          sets_long = length-set sets kept next ∙ t.sets_long;
          starts_left = λ j h. get_or-set_other starts kept j start 0 (λ e. omega (arith, t.few)) ∙ t.starts_left j (omega arith);
          sets_left = λ j h. get_or-set_other sets kept j next 0 (λ e. omega (arith, t.few)) ∙ t.sets_left j (omega arith);
          low = λ j m hj hm hc. elim (same_or j kept hj) [
            | inl l ↦ omega (arith, old starts kept start j l, t.low j m l (omega arith) hc)
            | inr e ↦
                (let here : get_or (set starts kept start) j 0 ≡ start = ap (λ n. get_or (set starts kept start) n 0) e ∙ new starts kept start rs in
                omega (arith, here, was, tr.rising k m (omega arith) hc))
          ];
          done = λ j p q hj e f r. elim (same_or j k hj) [
            | inl l ↦
                (let m = t.done j p q l e f r in
                (m.0, omega (arith, m.1), omega (arith, old starts kept start m.0 m.1, m.2), subst (λ x. In x q) (sym (old sets kept next m.0 m.1)) m.3))
            | inr s ↦
                (let js : get_or g.starts j 0 ≡ get_or g.starts k 0 = ap (λ n. get_or g.starts n 0) s in
                let o = oc p q (subst (λ x. In x p) (ap (λ n. get_or g.sets n 0) s ∙ sym (t.sets_left k (omega arith))) e) f in
                elim (fresh_or out (get_or rows i 0) taken q fit t.part.fit o r) [
                  | inl n ↦ (kept, omega arith, omega (arith, js, was, new starts kept start rs), subst (λ x. In x q) (sym (new sets kept next rt)) n)
                  | inr y ↦
                      (let m = t.part.held q y in
                      (m.0, omega (arith, m.1), omega (arith, js, old starts kept start m.0 m.1, t.low m.0 k m.1 (omega arith) hk), subst (λ x. In x q) (sym (old sets kept next m.0 m.1)) m.2))
                ])
          ];
        }

    pub none : next ≡ 0 → Turn a rows i g starts sets (k + 1) kept taken
    none z = record {
      part = t.part;
      few = omega (arith, t.few);
      starts_long = t.starts_long;
      sets_long = t.sets_long;
      starts_left = λ j h. t.starts_left j (omega arith);
      sets_left = λ j h. t.sets_left j (omega arith);
      low = λ j m hj hm hc. t.low j m hj (omega arith) hc;
      done = λ j p q hj e f r. elim (same_or j k hj) [
        | inl l ↦ t.done j p q l e f r
        | inr s ↦
            (let js : get_or g.starts j 0 ≡ get_or g.starts k 0 = ap (λ n. get_or g.starts n 0) s in
            let o = oc p q (subst (λ x. In x p) (ap (λ n. get_or g.sets n 0) s ∙ sym (t.sets_left k (omega arith))) e) f in
            elim (fresh_or out (get_or rows i 0) taken q fit t.part.fit o r) [
              | inl n ↦ absurd (in_zero (subst (λ x. In x q) z n))
              | inr y ↦ (let m = t.part.held q y in (m.0, m.1, omega (arith, js, t.low m.0 k m.1 (omega arith) hk), m.2))
            ])
      ];
    }

  -- all are read
  module _ (all : g.count ≤ k) (hk : k ≤ g.count) where
    abbrev fresh : ℕ
    fresh = bit_and (bit_and a.first (get_or rows i 0)) (2 ^ 64 - 1 - taken)

    begins : (q : ℕ) → In fresh q → After a rows i (i + 1) q
    begins q e = let b = fresh_is a.first (get_or rows i 0) taken q t.part.fit e in begin refl hi b.0 b.1

    fresh_fit : fresh < 2 ^ 64
    fresh_fit = omega (arith, and_le_l (bit_and a.first (get_or rows i 0)) (2 ^ 64 - 1 - taken), and_le_r a.first (get_or rows i 0))

    pub end_some : Tracks a rows (i + 1) (record { count = kept + 1; starts = set starts kept i; sets = set sets kept fresh })
    end_some =
        let room : kept < 160 = omega (arith, tr.few, t.few) in
        let rs : kept < length starts = omega (arith, t.starts_long) in
        let rt : kept < length sets = omega (arith, t.sets_long) in
        let part = push a rows i starts sets kept taken i fresh rs rt t.part (λ j h. omega (arith, t.part.begun j h)) (omega arith) begins (λ q e. (fresh_is a.first (get_or rows i 0) taken q t.part.fit e).2) fresh_fit in record {
          few = omega (arith, tr.few, t.few);
          rising = part.rising;
          begun = part.begun;
          sound = λ j q h e. part.sound j q h e;
          apart = part.apart;
          complete = λ l q w. elim (reached a rows l i q w) [
            | inl b ↦ elim (fresh_or a.first (get_or rows i 0) taken q fit t.part.fit b.1 b.2) [
              | inl n ↦ (kept, omega arith, omega (arith, b.0, new starts kept i rs), subst (λ x. In x q) (sym (new sets kept fresh rt)) n)
              | inr y ↦
                  (let m = t.part.held q y in
                  (m.0, omega (arith, m.1), omega (arith, b.0, old starts kept i m.0 m.1, t.part.begun m.0 m.1), subst (λ x. In x q) (sym (old sets kept fresh m.0 m.1)) m.2))
            ]
            | inr s ↦
                (let c = tr.complete l s.0 s.1 in
                let m = t.done c.0 s.0 q (omega (arith, c.1)) c.3 s.2 s.3 in
                (m.0, omega (arith, m.1), omega (arith, c.2, m.2, old starts kept i m.0 m.1), subst (λ x. In x q) (sym (old sets kept fresh m.0 m.1)) m.3))
          ];
        }

    pub end_none : fresh ≡ 0 → Tracks a rows (i + 1) (record { count = kept; starts = starts; sets = sets })
    end_none z = record {
      few = omega (arith, tr.few, t.few);
      rising = t.part.rising;
      begun = t.part.begun;
      sound = λ j q h e. t.part.sound j q h e;
      apart = t.part.apart;
      complete = λ l q w. elim (reached a rows l i q w) [
        | inl b ↦ elim (fresh_or a.first (get_or rows i 0) taken q fit t.part.fit b.1 b.2) [
          | inl n ↦ absurd (in_zero (subst (λ x. In x q) z n))
          | inr y ↦ (let m = t.part.held q y in (m.0, m.1, omega (arith, b.0, t.part.begun m.0 m.1), m.2))
        ]
        | inr s ↦
            (let c = tr.complete l s.0 s.1 in
            let m = t.done c.0 s.0 q (omega (arith, c.1)) c.3 s.2 s.3 in
            (m.0, m.1, omega (arith, c.2, m.2), m.3))
      ];
    }

-- What the groups say of the stretches.
use Rattle.std.proofs.Common.{◌≡◌, ℕ, ◌+◌, ◌-◌, ◌<◌, ◌≤◌, ◌⊎◌, true, cond, ltb, Option, Some, None, MatchOption, List, [], ◌∷◌, length, get_or, take, length-take, get_or-take, sym, refl, ap, ◌∙◌, subst, inl, inr, arith}
use lib.Bits.{bit_and, and_zero_l}
use Rattle.std.specs.List.{AllWithin, HoldsAt}
use Rattle.std.proofs.lemmas.List.{get_or_past}
use Rattle.std.proofs.lemmas.Bool.{cases_eq, cases_lt, lt-ltb, le-ltb}
use Rattle.automaton.specs.declared.machine.Automaton.{Automaton}
use Rattle.automaton.specs.declared.sweep.Active.{Active}
use Rattle.automaton.specs.Bit.{In}
use Rattle.automaton.specs.Reads.{Path, Walk, Admits, Reads}
use Rattle.automaton.specs.Stretches.{Ahead, Longest, NoneReads}
use Rattle.automaton.specs.Tracks.{After, begin, step, Ends, empty, walk, Tracks, First, Earliest}
use Rattle.automaton.proofs.Bits.{in_and, and_in, in_zero, some_in}
use Rattle.automaton.proofs.Turns.{later}

-- ---- a walk by its last position is a walk by its positions
module _ (a : Automaton) (rows : List ℕ) (l r : ℕ) where
  onto : (i q : ℕ) (w : List ℕ) → After a rows l i q → Path a q w → Admits rows i r w → Reads a rows l r
  onto i q w (begin e h f k) p m = record { positions = q ∷ w; walks = (f, p); admits = (h, k, subst (λ n. Admits rows n r w) e m) }
  onto i q w (step {j = j} {p = o} v e h f k) p m = onto j o (q ∷ w) v (f, p) (h, k, subst (λ n. Admits rows n r w) e m)

  pub reads : Ends a rows l r → Reads a rows l r
  reads (empty e h z) = record { positions = []; walks = z; admits = (e, h) }
  reads (walk q w v) = onto r q [] w v (refl, (later a rows l r q w).1)

  along : (i p : ℕ) (w : List ℕ) → After a rows l i p → Path a p w → Admits rows i r w → Ends a rows l r
  along i p [] v f m = walk p (subst (λ n. After a rows l n p) m.0 v) f
  along i p (q ∷ w) v f m = along (i + 1) q w (step v refl m.0 f.0 m.1) f.1 m.2

  by : (w : List ℕ) → Walk a w → Admits rows l r w → Ends a rows l r
  by [] f m = empty m.0 m.1 f
  by (p ∷ w) f m = along (l + 1) p w (begin refl m.0 f.0 m.1) f.1 m.2

  pub ends : Reads a rows l r → Ends a rows l r
  ends x = by x.positions x.walks x.admits

-- none of the groups before k has a last position
abbrev pub Idle : Automaton → Active → ℕ → Type 0
Idle a g k = (j q : ℕ) → j < k → In (get_or g.sets j 0) q → In a.last q → ⊥

module _ (a : Automaton) (rows : List ℕ) (r : ℕ) (g : Active) (tr : Tracks a rows r g) where
  pub ends_at : (k q : ℕ) → k < g.count → Idle a g k → In (get_or g.sets k 0) q → In a.last q → First a rows r (get_or g.starts k 0)
  ends_at k q hk idle e f = record {
    below = tr.begun k hk;
    reads = walk q (tr.sound k q hk e) f;
    first = λ l h w. first l h w;
  } where
    first : (l : ℕ) → l < r → Ends a rows l r → get_or g.starts k 0 ≤ l
    first l h (empty s n z) = absurd (omega arith)
    first l h (walk p w v) =
        let m = tr.complete l p w in
        elim (cases_lt m.0 k) [
          | inl b ↦ absurd (idle m.0 p b m.3 v)
          | inr b ↦ elim (cases_eq k m.0) [
            | inl s ↦ omega (arith, ap (λ n. get_or g.starts n 0) s, m.2)
            | inr s ↦ omega (arith, tr.rising k m.0 (omega (arith, s, b)) m.1, m.2)
          ]
        ]

-- a group with a last position, and one with none
pub has_last : (x y : ℕ) → (bit_and x y ≡ 0 → ⊥) → (q : ℕ) × In x q × In y q
has_last x y f = elim (some_in (bit_and x y)) [
  | inl z ↦ absurd (f z)
  | inr p ↦ (let b = in_and {x = x} {y = y} p.1 in (p.0, b.0, b.1))
]

pub has_none : (x y q : ℕ) → bit_and x y ≡ 0 → In x q → In y q → ⊥
has_none x y q z e f = in_zero (subst (λ n. In n q) z (and_in e f))

-- x reads, ends by i, and is ahead of all stretches that read and end by i
pub record Head (a : Automaton) (rows : List ℕ) (i : ℕ) (x : ℕ × ℕ) : Type 0 where
  pub ordered : x.0 ≤ x.1
  pub within : x.1 ≤ i
  pub reads : Ends a rows x.0 x.1
  pub ahead : (m s : ℕ) → s ≤ i → Ends a rows m s → Ahead x (m, s)

-- the best of the stretches that read and end by i, or `None` where there is none
abbrev pub Best : Automaton → List ℕ → ℕ → Option (ℕ × ℕ) → Type 0
Best a rows i None = (m s : ℕ) → s ≤ i → Ends a rows m s → ⊥
Best a rows i (Some x) = Head a rows i x

module _ (a : Automaton) (rows : List ℕ) where
  -- a stretch that reads is empty or not
  shape : (m s : ℕ) → Ends a rows m s → ((m ≡ s) × (a.nullable ≡ true)) ⊎ (m < s)
  shape m s (empty e n z) = inl (e, z)
  shape m s (walk q w v) = inr (later a rows m s q w).0

  pub inside : (m s : ℕ) → Ends a rows m s → s ≤ length rows
  inside m s (empty e n z) = n
  inside m s (walk q w v) = (later a rows m s q w).1

  -- a stretch stays ahead with one symbol more, where it is ahead of those that end at that symbol and are not empty
  still_ahead : (i : ℕ) (x : ℕ × ℕ) → Head a rows i x → ((m : ℕ) → m < i + 1 → Ends a rows m (i + 1) → Ahead x (m, i + 1)) → Head a rows (i + 1) x
  still_ahead i x b over = record {
    ordered = b.ordered;
    within = omega (arith, b.within);
    reads = b.reads;
    ahead = λ m s h w. elim (cases_lt i s) [
      | inl new ↦
          (let is : s ≡ i + 1 = omega arith in
          elim (shape m s w) [
            | inl y ↦ elim (cases_lt x.0 x.1) [ inl z ↦ inl (omega (arith, y.0)) | inr z ↦ inr (omega (arith, y.0), omega (arith, y.0, b.within, b.ordered)) ]
            | inr y ↦ subst (λ n. Ahead x (m, n)) (sym is) (over m (omega arith) (subst (λ n. Ends a rows m n) is w))
          ])
      | inr old ↦ b.ahead m s old w
    ];
  }

  -- one symbol more, at which no stretch ends but empty ones
  pub best_none : (i : ℕ) (o : Option (ℕ × ℕ)) → Best a rows i o → Earliest a rows (i + 1) None → Best a rows (i + 1) o
  best_none i None b n = λ m s h w. elim (shape m s w) [
    | inl y ↦ b 0 0 (omega arith) (empty refl (omega arith) y.1)
    | inr y ↦ elim (cases_lt i s) [
      | inl new ↦ (let is : s ≡ i + 1 = omega arith in n m (omega arith) (subst (λ n. Ends a rows m n) is w))
      | inr old ↦ b m s old w
    ]
  ]
  best_none i (Some x) b n = still_ahead i x b (λ m h w. absurd (n m h w))

  module _ (i e : ℕ) (f : First a rows (i + 1) e) where
    -- a stretch that ends at the new symbol and is longer than those before
    longest_new : ((m s : ℕ) → s ≤ i → Ends a rows m s → s - m < i + 1 - e) → Head a rows (i + 1) (e, i + 1)
    longest_new h = record {
      ordered = omega (arith, f.below);
      within = omega arith;
      reads = f.reads;
      ahead = λ m s k w. elim (cases_lt i s) [
        | inl new ↦
            (let is : s ≡ i + 1 = omega arith in
            elim (shape m s w) [
              | inl y ↦ inl (omega (arith, y.0, f.below))
              | inr y ↦
                  (let low = f.first m (omega arith) (subst (λ n. Ends a rows m n) is w) in
                  elim (cases_lt e m) [ inl z ↦ inl (omega arith) | inr z ↦ inr (omega arith, low) ])
            ])
        | inr old ↦ inl (h m s old w)
      ];
    }

    -- one symbol more, at which e is the least start
    pub best_some : (o : Option (ℕ × ℕ)) (best : ℕ × ℕ) → Best a rows i o → MatchOption o (best ≡ (e, i + 1)) (λ x. best ≡ cond (ltb (x.1 - x.0) (i + 1 - e)) (e, i + 1) x) → Best a rows (i + 1) (Some best)
    best_some None best b is = subst (Head a rows (i + 1)) (sym is) (longest_new (λ m s h w. absurd (b m s h w)))
    best_some (Some x) best b is = subst (Head a rows (i + 1)) (sym is) (elim (cases_lt (x.1 - x.0) (i + 1 - e)) [
      | inl l ↦ subst (λ c. Head a rows (i + 1) (cond c (e, i + 1) x)) (sym (lt-ltb (x.1 - x.0) (i + 1 - e) l)) (longest_new (λ m s h w. elim (b.ahead m s h w) [ inl y ↦ omega (arith, y) | inr y ↦ omega (arith, y.0) ]))
      | inr g ↦ subst (λ c. Head a rows (i + 1) (cond c (e, i + 1) x)) (sym (le-ltb (x.1 - x.0) (i + 1 - e) g)) (still_ahead i x b (λ m h w.
          let low = f.first m h w in
          elim (cases_lt (i + 1 - m) (x.1 - x.0)) [ inl z ↦ inl z | inr z ↦ inr (omega arith, omega (arith, b.within, b.ordered)) ]))
    ])

  -- all symbols are read
  pub best_of : (i : ℕ) (o : Option (ℕ × ℕ)) → length rows ≤ i → Best a rows i o → MatchOption o (NoneReads (Reads a rows)) (λ x. Longest (Reads a rows) x)
  best_of i None all b = λ m s w. (let e = ends a rows m s w in b m s (omega (arith, inside m s e)) e)
  best_of i (Some x) all b = record {
    reads = reads a rows x.0 x.1 b.reads;
    ahead = λ m s w. (let e = ends a rows m s w in b.ahead m s (omega (arith, inside m s e)) e);
  }

-- the first group with a last position has the least start, and where there is none, no stretch ends but empty ones
module _ (a : Automaton) (rows : List ℕ) (r : ℕ) (g : Active) (tr : Tracks a rows r g) where
  first_group : (k : ℕ) → k < g.count → (bit_and (get_or g.sets k 0) a.last ≡ 0 → ⊥) → ((j : ℕ) → j < k → bit_and (get_or g.sets j 0) a.last ≡ 0) → First a rows r (get_or g.starts k 0)
  first_group k hk some none =
      let q = has_last (get_or g.sets k 0) a.last some in
      ends_at a rows r g tr k q.0 hk (λ j q l e f. has_none (get_or g.sets j 0) a.last q (none j l) e f) q.1 q.2

  no_group : ((j : ℕ) → j < g.count → bit_and (get_or g.sets j 0) a.last ≡ 0) → Earliest a rows r None
  no_group none l h (empty s n z) = omega arith
  no_group none l h (walk p w v) = let m = tr.complete l p w in has_none (get_or g.sets m.0 0) a.last p (none m.0 m.1) m.3 v

  pub found : (o : Option ℕ)
      → MatchOption o (AllWithin (λ s. bit_and s a.last ≡ 0) (take g.count g.sets) 0 (length (take g.count g.sets)))
      (λ i. (i < length (take g.count g.sets)) × HoldsAt (λ s. bit_and s a.last ≡ 0 → ⊥) (take g.count g.sets) i × AllWithin (λ s. bit_and s a.last ≡ 0) (take g.count g.sets) 0 i)
      → MatchOption o (Earliest a rows r None) (λ k. First a rows r (get_or g.starts k 0))
  found None h =
      no_group (λ j l. elim (cases_lt j (length (take g.count g.sets))) [
        | inl b ↦ subst (λ s. bit_and s a.last ≡ 0) (get_or-take g.count g.sets j 0 l) (h j 0 (omega arith) b)
        | inr b ↦ (let past : get_or g.sets j 0 ≡ 0 = get_or_past g.sets j 0 (omega (arith, length-take g.count g.sets)) in ap (λ s. bit_and s a.last) past ∙ and_zero_l a.last)
      ])
  found (Some k) h =
      let hk : k < g.count = omega (arith, length-take g.count g.sets, h.0) in
      first_group k hk (subst (λ s. bit_and s a.last ≡ 0 → ⊥) (get_or-take g.count g.sets k 0 hk) (h.1 0)) (λ j l. subst (λ s. bit_and s a.last ≡ 0) (get_or-take g.count g.sets j 0 (omega arith)) (h.2 j 0 (omega arith) l))

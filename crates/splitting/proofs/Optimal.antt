-- The best front by the best front before it.
use Rattle.std.proofs.Common.{◌≡◌, ℕ, zero, suc, ◌+◌, ◌<◌, ◌≤◌, Bool, true, List, [], ◌∷◌, length, get_or, set, Ordering, sym, refl, ap, ◌∙◌, subst, inl, inr, arith}
use lib.Bits.{bit_and}
use Rattle.std.specs.Ordering.{is_le}
use Rattle.std.proofs.lemmas.List.{get_or-set_same, get_or-set_other}
use Rattle.automaton.specs.declared.machine.Automaton.{Automaton}
use Rattle.automaton.specs.Bit.{In}
use Rattle.automaton.proofs.Bits.{in_and, and_in, in_zero}
use Rattle.ranking.specs.Laws.{Near, Lawful}
use Rattle.ranking.proofs.Orders.{less_under, under_less, equals}
use Rattle.splitting.specs.Choice.{Pick, Wins}
use Rattle.splitting.specs.Steps.{Preceded, Stepped, back_from, rank_back}
use Rattle.splitting.proofs.Fronts.{Front, Full, Earlier, Rules, same, higher, earlier, Leads, Cells}
use Rattle.splitting.proofs.Nearness.{back_length, rank_near}

earlier_trans : (u v w : List ℕ) → Earlier u v → Earlier v w → Earlier u w
earlier_trans [] v w x _ = absurd x
earlier_trans (x ∷ u) [] w y _ = absurd y
earlier_trans (x ∷ u) (y ∷ v) [] _ z = absurd z
earlier_trans (x ∷ u) (y ∷ v) (z ∷ w) (inl a) (inl b) = inl (omega arith)
earlier_trans (x ∷ u) (y ∷ v) (z ∷ w) (inl a) (inr b) = inl (omega (arith, b.0))
earlier_trans (x ∷ u) (y ∷ v) (z ∷ w) (inr a) (inl b) = inl (omega (arith, a.0))
earlier_trans (x ∷ u) (y ∷ v) (z ∷ w) (inr a) (inr b) = inr (a.0 ∙ b.0, earlier_trans u v w a.1 b.1)

-- only the rows before its symbol count
back_from_same : (b b' : List (List ℕ)) (n q : ℕ) → ((j : ℕ) → j < n → get_or b' j [] ≡ get_or b j []) → back_from b' n q ≡ back_from b n q
back_from_same b b' zero q k = refl
back_from_same b b' (suc n) q k =
    ap (λ r. q ∷ back_from b' n (get_or r q 0)) (k n (omega arith)) ∙ ap (λ w. q ∷ w) (back_from_same b b' n (get_or (get_or b n []) q 0) (λ j l. k j (omega (arith, l))))

module _ {M : Type 0} {start : M} {stepped : M → ℕ → M} {compared : M → M → Ordering} (law : Lawful start stepped compared) (tags : List ℕ) (small : (k : ℕ) → get_or tags k 0 < 256) where
  near : (n : ℕ) (w : List ℕ) → length w ≤ n → Near start stepped n (rank_back start stepped tags w)
  near = rank_near start stepped tags small

  rules_trans : (u v w : List ℕ) → length u ≤ 160 → length v ≤ 160 → length w ≤ 160
      → Rules compared (rank_back start stepped tags) u v → Rules compared (rank_back start stepped tags) v w → Rules compared (rank_back start stepped tags) u w
  rules_trans u v w hu hv hw x y = go x y
    where
      ou : Near start stepped 160 (rank_back start stepped tags u)
      ou = near 160 u hu

      ov : Near start stepped 160 (rank_back start stepped tags v)
      ov = near 160 v hv

      ow : Near start stepped 160 (rank_back start stepped tags w)
      ow = near 160 w hw

      go : Rules compared (rank_back start stepped tags) u v → Rules compared (rank_back start stepped tags) v w → Rules compared (rank_back start stepped tags) u w
      go (same e) y = subst (λ l. Rules compared (rank_back start stepped tags) l w) e y
      go (higher a) (same e) = subst (λ l. Rules compared (rank_back start stepped tags) u l) (sym e) (higher a)
      go (earlier a f) (same e) = subst (λ l. Rules compared (rank_back start stepped tags) u l) (sym e) (earlier a f)
      go (higher a) (higher b) = higher (less_under law ow ov ou b (ap is_le a))
      go (higher a) (earlier b f) = higher (under_less law ow ov ou (ap is_le b) a)
      go (earlier a e) (higher b) = higher (less_under law ow ov ou b (ap is_le a))
      go (earlier a e) (earlier b f) = earlier (equals law ow ov ou b a) (earlier_trans u v w e f)

  -- one more same position on both keeps which rules
  extend : (q : ℕ) (w v : List ℕ) → length w ≤ 159 → length v ≤ 159
      → Rules compared (rank_back start stepped tags) w v → Rules compared (rank_back start stepped tags) (q ∷ w) (q ∷ v)
  extend q w v hw hv (same e) = same (ap (λ l. q ∷ l) e)
  extend q w v hw hv (higher h) = higher (law.same_step (near 159 v hv) (near 159 w hw) (get_or tags q 0) (small q) ∙ h)
  extend q w v hw hv (earlier h e) = earlier (law.same_step (near 159 v hv) (near 159 w hw) (get_or tags q 0) (small q) ∙ h) (inr (refl, e))

  module _ (a : Automaton) (may : ℕ → ℕ → Bool) where
    module _ (j live : ℕ) (measures : List M) (back : List (List ℕ)) (h : suc j ≤ 160) (cells : Cells start stepped compared a tags may (suc j) live measures back) where
      -- the picked front rules over every front whose newest position is a candidate
      pub over : (Candidate : ℕ → Type 0) → ((p : ℕ) → Candidate p → In live p) → (r : ℕ) → Pick compared (λ p. get_or measures p start) Candidate r
          → (o : ℕ) (v : List ℕ) → length (o ∷ v) ≡ suc j → Front a may (o ∷ v) → Candidate o
          → Rules compared (rank_back start stepped tags) (back_from back (suc j) r) (o ∷ v)
      over Candidate lives r pick o v e f k = win (pick.wins o k)
        where
          short : (q : ℕ) → length (back_from back (suc j) q) ≤ 160
          short q = omega (arith, back_length back (suc j) q)

          ranks : compared (get_or measures o start) (get_or measures r start) ≡ compared (rank_back start stepped tags (back_from back (suc j) o)) (rank_back start stepped tags (back_from back (suc j) r))
          ranks =
              ap (λ n. compared n (get_or measures r start)) (cells.measure o (lives o k))
              ∙ ap (compared (rank_back start stepped tags (back_from back (suc j) o))) (cells.measure r (lives r pick.candidate))

          through : Rules compared (rank_back start stepped tags) (back_from back (suc j) r) (back_from back (suc j) o) → Rules compared (rank_back start stepped tags) (back_from back (suc j) r) (o ∷ v)
          through x = rules_trans _ (back_from back (suc j) o) _ (short r) (short o) (omega (arith, e)) x ((cells.leads o (lives o k)).best v e f)

          win : Wins compared (λ p. get_or measures p start) r o → Rules compared (rank_back start stepped tags) (back_from back (suc j) r) (o ∷ v)
          win (Wins.same x) =
              subst (λ n. Rules compared (rank_back start stepped tags) (back_from back (suc j) r) (n ∷ v)) (sym x)
              ((cells.leads r (lives r pick.candidate)).best v e (subst (λ n. Front a may (n ∷ v)) x f))
          win (Wins.higher x) = through (higher (sym ranks ∙ x))
          win (Wins.earlier x y) = through (earlier (sym ranks ∙ x) (inl y))

    -- no symbol
    pub no_cells : (measures : List M) (back : List (List ℕ)) → Cells start stepped compared a tags may 0 0 measures back
    no_cells measures back = record {
      low = λ q e. absurd (in_zero e);
      leads = λ q e. absurd (in_zero e);
      measure = λ q e. absurd (in_zero e);
      complete = λ q v l f. absurd (omega (arith, l));
    }

    -- the first symbol
    module _ (row : ℕ) (measures : List M) (back : List (List ℕ)) (may_of : (q : ℕ) → In row q → (q < 64) × (may 0 q ≡ true)) (of_may : (q : ℕ) → may 0 q ≡ true → In row q)
        (set' : (q : ℕ) → In (bit_and a.first row) q → get_or measures q start ≡ stepped start (get_or tags q 0)) where
      begun : Cells start stepped compared a tags may 1 (bit_and a.first row) measures back
      begun = record { low = λ q e. (of q e).0; leads = leads; measure = set'; complete = complete }
        where
          of : (q : ℕ) → In (bit_and a.first row) q → (q < 64) × (may 0 q ≡ true) × In a.first q
          of q e =
              let b = in_and {x = a.first} {y = row} e in
              let k = may_of q b.1 in
              (k.0, k.1, b.0)

          leads : (q : ℕ) → In (bit_and a.first row) q → Leads start stepped compared a tags may 1 q (q ∷ [])
          leads q e =
              let k = of q e in
              record { front = (k.0, k.1, k.2, tt); best = best }
            where
              best : (v : List ℕ) → length (q ∷ v) ≡ 1 → Front a may (q ∷ v) → Rules compared (rank_back start stepped tags) (q ∷ []) (q ∷ v)
              best [] l f = same refl
              best (o ∷ v) l f = absurd (omega (arith, l))

          complete : (q : ℕ) (v : List ℕ) → length (q ∷ v) ≡ 1 → Front a may (q ∷ v) → In (bit_and a.first row) q
          complete q [] l f = and_in {x = a.first} {y = row} f.2 (of_may q f.1)
          complete q (o ∷ v) l f = absurd (omega (arith, l))

    pub first_cells : (i row positions : ℕ) (measures : List M) (back : List (List ℕ)) → i ≡ 0 → positions ≡ bit_and a.first row
        → ((q : ℕ) → In row q → (q < 64) × (may i q ≡ true)) → ((q : ℕ) → may i q ≡ true → In row q)
        → ((q : ℕ) → In positions q → get_or measures q start ≡ stepped start (get_or tags q 0))
        → Cells start stepped compared a tags may (i + 1) positions measures back
    first_cells zero row positions measures back z e may_of of_may set' =
        subst (λ l. Cells start stepped compared a tags may 1 l measures back) (sym e) (begun row measures back may_of of_may (λ q x. set' q (subst (λ l. In l q) (sym e) x)))
    first_cells (suc i) row positions measures back z e may_of of_may set' = absurd (omega (arith, z))

    -- one symbol more
    module _ (j live row positions : ℕ) (measures after : List M) (back : List (List ℕ)) (previous : List ℕ) (h : suc j < 160) (inside : suc j < length back)
        (may_of : (q : ℕ) → In row q → (q < 64) × (may (suc j) q ≡ true)) (of_may : (q : ℕ) → may (suc j) q ≡ true → In row q)
        (cells : Cells start stepped compared a tags may (suc j) live measures back)
        (before : Preceded compared (λ p. get_or measures p start) a.follow live row positions previous)
        (set' : Stepped start stepped tags positions previous measures after) where
      back_from_next : (q : ℕ) → back_from (set back (suc j) previous) (suc (suc j)) q ≡ q ∷ back_from back (suc j) (get_or previous q 0)
      back_from_next q =
          ap (λ r. q ∷ back_from (set back (suc j) previous) (suc j) (get_or r q 0)) (get_or-set_same back (suc j) previous [] inside)
          ∙ ap (λ w. q ∷ w) (back_from_same back (set back (suc j) previous) (suc j) (get_or previous q 0) (λ k l. get_or-set_other back (suc j) k previous [] (λ x. omega (arith, l, x))))

      leads : (q : ℕ) → In positions q → Leads start stepped compared a tags may (suc (suc j)) q (q ∷ back_from back (suc j) (get_or previous q 0))
      leads q e =
          let pick = before.picked q e in
          let k = may_of q (before.admitted q e) in
          record {
            front = (k.0, subst (λ n. may n q ≡ true) (sym (back_length back (suc j) (get_or previous q 0))) k.1, pick.candidate.1, (cells.leads (get_or previous q 0) pick.candidate.0).front);
            best = best;
          }
        where
          best : (v : List ℕ) → length (q ∷ v) ≡ suc (suc j) → Front a may (q ∷ v) → Rules compared (rank_back start stepped tags) (q ∷ back_from back (suc j) (get_or previous q 0)) (q ∷ v)
          best [] l f = absurd (omega (arith, l))
          best (o ∷ v) l f =
              let l' : length (o ∷ v) ≡ suc j = omega (arith, l) in
              extend q (back_from back (suc j) (get_or previous q 0)) (o ∷ v) (omega (arith, back_length back (suc j) (get_or previous q 0))) (omega (arith, l'))
              (over j live measures back (omega arith) cells (λ p. In live p × In (get_or a.follow p 0) q) (λ p y. y.0) (get_or previous q 0) (before.picked q e) o v l' f.3
              (cells.complete o v l' f.3, f.2))

      complete : (q : ℕ) (v : List ℕ) → length (q ∷ v) ≡ suc (suc j) → Front a may (q ∷ v) → In positions q
      complete q [] l f = absurd (omega (arith, l))
      complete q (o ∷ v) l f =
          let l' : length (o ∷ v) ≡ suc j = omega (arith, l) in
          before.complete o q (cells.complete o v l' f.3) f.2 (of_may q (subst (λ n. may n q ≡ true) l' f.1))

      next : Cells start stepped compared a tags may (suc (suc j)) positions after (set back (suc j) previous)
      next = record {
        low = λ q e. (may_of q (before.admitted q e)).0;
        leads = λ q e. subst (Leads start stepped compared a tags may (suc (suc j)) q) (sym (back_from_next q)) (leads q e);
        measure = λ q e.
            set' q e ∙ ap (λ m. stepped m (get_or tags q 0)) (cells.measure (get_or previous q 0) (before.picked q e).candidate.0)
            ∙ ap (rank_back start stepped tags) (sym (back_from_next q));
        complete = complete;
      }

    pub next_cells : (i live row positions : ℕ) (measures after : List M) (back : List (List ℕ)) (previous : List ℕ) → 0 < i → i < 160 → i < length back
        → ((q : ℕ) → In row q → (q < 64) × (may i q ≡ true)) → ((q : ℕ) → may i q ≡ true → In row q)
        → Cells start stepped compared a tags may i live measures back
        → Preceded compared (λ p. get_or measures p start) a.follow live row positions previous
        → Stepped start stepped tags positions previous measures after
        → Cells start stepped compared a tags may (i + 1) positions after (set back i previous)
    next_cells zero live row positions measures after back previous h h' inside may_of of_may cells before set' = absurd (omega arith)
    next_cells (suc j) live row positions measures after back previous h h' inside may_of of_may cells before set' =
        let e : suc (suc j) ≡ suc j + 1 = omega arith in
        subst (λ n. Cells start stepped compared a tags may n positions after (set back (suc j) previous)) e
        (next j live row positions measures after back previous h' inside may_of of_may cells before set')

    -- the choice at the end of the stretch
    pub best_full : (n live : ℕ) (measures : List M) (back : List (List ℕ)) → 0 < n → n ≤ 160 → Cells start stepped compared a tags may n live measures back
        → (q : ℕ) → Pick compared (λ p. get_or measures p start) (In (bit_and live a.last)) q
        → Full a may n (back_from back n q) × ((v : List ℕ) → Full a may n v → Rules compared (rank_back start stepped tags) (back_from back n q) v)
    best_full zero live measures back h h' cells q pick = absurd (omega arith)
    best_full (suc j) live measures back h h' cells q pick =
        let k = in_and {x = live} {y = a.last} pick.candidate in
        (record { whole = back_length back (suc j) q; front = (cells.leads q k.0).front; ends = k.1 }, best)
      where
        best : (v : List ℕ) → Full a may (suc j) v → Rules compared (rank_back start stepped tags) (back_from back (suc j) q) v
        best [] t = absurd (omega (arith, t.whole))
        best (o ∷ v) t =
            over j live measures back h' cells (In (bit_and live a.last)) (λ p x. (in_and {x = live} {y = a.last} x).0) q pick o v t.whole t.front
            (and_in {x = live} {y = a.last} (cells.complete o v t.whole t.front) t.ends)

    pub no_full : (n live : ℕ) (measures : List M) (back : List (List ℕ)) → 0 < n → Cells start stepped compared a tags may n live measures back → ((q : ℕ) → In live q → In a.last q → ⊥)
        → (w : List ℕ) → Full a may n w → ⊥
    no_full n live measures back h cells none [] t = omega (arith, t.whole)
    no_full n live measures back h cells none (o ∷ v) t = none o (cells.complete o v t.whole t.front) t.ends

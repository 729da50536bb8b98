-- A table whose node stands for an expression gives that expression.
use Rattle.std.proofs.Common.{◌≡◌, ℕ, zero, suc, ◌<◌, List, ap, ◌∙◌, arith}
use Rattle.pattern.specs.declared.node.Node.{Node}
use Rattle.pattern.specs.Expressions.{Expr, seq, either, star, plus, opt, tag, Syntax}
use Rattle.pattern.specs.Trees.{from_children, tree, Stands, a_test, a_seq, an_or, a_star, a_plus, an_opt, a_tag}

pub stands_tree : {ns : List Node} {k : ℕ} {e : Expr} → Stands ns k e → (n : ℕ) → k < n → tree n ns k ≡ e
stands_tree r zero h = elim h [ ]
stands_tree {ns = ns} (a_test x) (suc n) h = ap (from_children (λ j. tree n ns j)) x
stands_tree {ns = ns} (a_seq {b = b} {e = e} x l m r q) (suc n) h = ap (from_children (λ j. tree n ns j)) x ∙ ap (λ z. seq z (tree n ns b)) (stands_tree r n (omega arith)) ∙ ap (seq e) (stands_tree q n (omega arith))
stands_tree {ns = ns} (an_or {b = b} {e = e} x l m r q) (suc n) h = ap (from_children (λ j. tree n ns j)) x ∙ ap (λ z. either z (tree n ns b)) (stands_tree r n (omega arith)) ∙ ap (either e) (stands_tree q n (omega arith))
stands_tree {ns = ns} (a_star x l r) (suc n) h = ap (from_children (λ j. tree n ns j)) x ∙ ap star (stands_tree r n (omega arith))
stands_tree {ns = ns} (a_plus x l r) (suc n) h = ap (from_children (λ j. tree n ns j)) x ∙ ap plus (stands_tree r n (omega arith))
stands_tree {ns = ns} (an_opt x l r) (suc n) h = ap (from_children (λ j. tree n ns j)) x ∙ ap opt (stands_tree r n (omega arith))
stands_tree {ns = ns} (a_tag {n = t} x l r) (suc n) h = ap (from_children (λ j. tree n ns j)) x ∙ ap (tag t) (stands_tree r n (omega arith))

pub same_syntax : {e e' : Expr} {cs cs' : List ℕ} {g g' : ℕ} → e ≡ e' → cs ≡ cs' → g ≡ g' → ◌≡◌ {A = Syntax} (record { tree = e; codes = cs; tags = g }) (record { tree = e'; codes = cs'; tags = g' })
same_syntax p q r = cc

use Rattle.std.proofs.Common.{◌+◌, ◌||◌, ap, ◌∙◌}
use Rattle.std.proofs.lemmas.List.{get_or-replicate}
use Rattle.automaton.specs.Bit.{bit}
use Rattle.pattern.specs.Positions.{follows}
use Rattle.automaton.proofs.BitTests.{bit_none}
use Rattle.pattern.proofs.positions.automaton.Goals as goal

pub returns : goal.returns
returns c = λ e s.
    let a = c.gather-edges.ensures e s in
    record {
      empty = a.null;
      first = a.first;
      last = a.last;
      follow = λ p q h. a.follow p q h ∙ ap (λ x. bit x q || follows e (p + 1) (q + 1)) (get_or-replicate 64 p 0 0 h) ∙ ap (λ b. b || follows e (p + 1) (q + 1)) (bit_none q);
    }

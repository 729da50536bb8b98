-- What is done with of the line so far has no line feed, and its front is held. A line that was at hand is read in the first turn; where none
-- was, none is, before input is waited for.
use Rattle.std.proofs.Common.{◌≡◌, ℕ, List, [], true, false, nat_lt, length, take}
use Rattle.std.specs.Io.Buffered.{reader_buffer, reader_remaining, writer_contents}
use Rattle.std.specs.Io.KnownBytes.{Keeps, Consumes}
use Rattle.text.specs.Lines.{held, front, ends}
use Rattle.line_input.proofs.read_line.Given as goal

abbrev pub invariant-loop : goal.invariant-loop
invariant-loop g l =
    record {
      read : (done : List ℕ) × Consumes (reader_remaining g.R.Read.remaining l.initial.input) (reader_remaining g.R.Read.remaining l.input) done
          × (ends done ≡ false) × (held l.line ≡ take g.row.MOST (front done)) × (l.there ≡ nat_lt 0 (length done));
      first_turn : ends (reader_buffer l.initial.input) ≡ true → (l.counter ≡ 0) × (l.input ≡ l.initial.input) × (l.output ≡ l.initial.output) × (held l.line ≡ []);
      none_at_hand : ends (reader_buffer l.initial.input) ≡ false → ends (reader_buffer l.input) ≡ false;
      written : Keeps (writer_contents g.W.Write.contents l.initial.output) (writer_contents g.W.Write.contents l.output);
    }

-- From what the automaton finds to what the calls answer.
use Rattle.std.proofs.Common.{◌≡◌, ℕ, ◌<◌, ◌≤◌, Bool, cond, List, length, Some, None, Ok, Err, Option, sym, ap, ◌∙◌, refl, subst, MatchOption}
use borrow.Author.Tests.{le-true, lt-false}
use Rattle.std.specs.Option.{ok_or}
use Rattle.automaton.specs.declared.machine.Automaton.{Automaton}
use Rattle.automaton.specs.Reads as machine
use Rattle.automaton.specs.Stretches.{Longest, NoneReads, Marks}
use Rattle.pattern.specs.declared.kept.Pattern.{Pattern}
use Rattle.pattern.specs.Expressions.{Syntax}
use Rattle.shelf.specs.declared.refusal.Refusal.TheVariants.{LineTooLong, BufferTooShort, NoMatch}
use Rattle.shelf.specs.Asking.{Asked}
use Rattle.shelf.specs.Places.{standing}
use Rattle.shelf.specs.Reports.{for_line, asked, LongestBy, with_room, MarksBy}
use Rattle.shelf.proofs.Bridging.{long, longest_of, none_of, marks_of}

-- a pattern that stands there, and a line that is short enough
pub short_enough : (places : List (Option Pattern)) (place symbols : ℕ) (x : Syntax) → standing places place ≡ Ok x → symbols ≤ 160 → asked places place symbols ≡ Ok x
short_enough places place symbols x is few =
    ap (λ r. for_line r symbols) is ∙ ap (λ b. cond b (Ok x) (Err LineTooLong)) (sym (le-true symbols 160 few))

module _ {S : Type 0} (meaning : ℕ → S → Bool) (line : List S) (x : Syntax) (a : Automaton) (rows : List ℕ) (by : Asked meaning line x a rows) where
  pub longest_found : (o : Option (ℕ × ℕ)) → MatchOption o (NoneReads (machine.Reads a rows)) (λ ends. Longest (machine.Reads a rows) ends) → LongestBy meaning (Ok x) line (ok_or o NoMatch)
  longest_found None none = (refl, none_of meaning line x a rows by none)
  longest_found (Some ends) best = longest_of meaning line x a rows by ends best

  pub marks_made : (before after : List ℕ) (o : Option ℕ) → MatchOption o ((length before < length rows) × (after ≡ before)) (λ count. Marks (machine.Reads a rows) (length rows) before after count) → MarksBy meaning (with_room (Ok x) (length line) (length before)) line before after (ok_or o BufferTooShort)
  marks_made before after None short = subst (λ b. MarksBy meaning (cond b (Ok x) (Err BufferTooShort)) line before after (Err BufferTooShort)) (lt-false (length line) (length before) (subst (λ n. length before < n) (long meaning line x a rows by) short.0)) (refl, short.1)
  marks_made before after (Some count) h = subst (λ b. MarksBy meaning (cond b (Ok x) (Err BufferTooShort)) line before after (Ok count)) (le-true (length line) (length before) (subst (λ n. n ≤ length before) (long meaning line x a rows by) h.room)) (marks_of meaning line x a rows by before after count h)

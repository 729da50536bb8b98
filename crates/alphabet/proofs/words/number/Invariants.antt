use Rattle.std.proofs.Common.{◌≡◌, ◌^◌, ◌<◌, ◌≤◌, drop}
use Rattle.alphabet.specs.Words.{number_from, number_reading}
use Rattle.alphabet.proofs.words.number.Given as goal

-- the digits so far are not too many, and what is left to read decides
abbrev pub invariant-loop-count : goal.invariant-loop-count
invariant-loop-count l =
    (l.count ≤ l.most_digits)
    × (l.value < 10 ^ l.count)
    × (number_reading l.most_digits l.limit l.bytes ≡ number_from l.most_digits l.limit l.count l.value (drop l.count l.bytes))

-- A ranking that is one of two. Its measures stand on its own side, left or right, so a measure of the other side is none of its own.
use Rattle.std.specs.Prelude.{ℕ}
use Rattle.std.specs.declared.cmp.Ordering.TheVariants.{Equal}
use Rattle.std.specs.declared.cmp.Ordering.{Ordering}
use Rattle.either.specs.declared.Either.{Either}
use Rattle.either.specs.declared.Either.TheVariants.{Left, Right}

-- the measure with one symbol more; one of the other side stays as it is
abbrev pub step_either : {Q R M N : Type 0} → (Q → M → ℕ → M) → (R → N → ℕ → N) → Either Q R → Either M N → ℕ → Either M N
step_either f g (Left q) (Left m) tags = Left (f q m tags)
step_either f g (Left q) (Right n) tags = Right n
step_either f g (Right r) (Left m) tags = Left m
step_either f g (Right r) (Right n) tags = Right (g r n tags)

-- how two measures compare; with one of the other side it is equal
abbrev pub compare_either : {Q R M N : Type 0} → (Q → M → M → Ordering) → (R → N → N → Ordering) → Either Q R → Either M N → Either M N → Ordering
compare_either f g (Left q) (Left a) (Left b) = f q a b
compare_either f g (Left q) (Left a) (Right b) = Equal
compare_either f g (Left q) (Right a) b = Equal
compare_either f g (Right r) (Left a) b = Equal
compare_either f g (Right r) (Right a) (Left b) = Equal
compare_either f g (Right r) (Right a) (Right b) = g r a b

-- the measures of the ranking that is there
abbrev pub MeasureThere : {Q R : Type 0} → Type 0 → Type 0 → Either Q R → Type 0
MeasureThere M N (Left q) = M
MeasureThere M N (Right r) = N

-- the start of the ranking that is there
abbrev pub start_there : {Q R M N : Type 0} → (Q → M) → (R → N) → (s : Either Q R) → MeasureThere M N s
start_there start start' (Left q) = start q
start_there start start' (Right r) = start' r

-- a step of the ranking that is there
abbrev pub stepped_there : {Q R M N : Type 0} → (Q → M → ℕ → M) → (R → N → ℕ → N) → (s : Either Q R) → MeasureThere M N s → ℕ → MeasureThere M N s
stepped_there stepped stepped' (Left q) = stepped q
stepped_there stepped stepped' (Right r) = stepped' r

-- the comparison of the ranking that is there
abbrev pub compared_there : {Q R M N : Type 0} → (Q → M → M → Ordering) → (R → N → N → Ordering) → (s : Either Q R) → MeasureThere M N s → MeasureThere M N s → Ordering
compared_there compared compared' (Left q) = compared q
compared_there compared compared' (Right r) = compared' r

-- What the reader has done with the table of nodes.
use Rattle.std.specs.Prelude.{◌≡◌, ◌≢◌, ℕ, ◌+◌, ◌*◌, ◌<◌, ◌≤◌, Bool, true, false, List, Result, MatchResult}
use Rattle.pattern.specs.declared.fault.Fault.{Fault}
use Rattle.pattern.specs.declared.node.Node.{Node}
use Rattle.pattern.specs.declared.reader.Part.{Part}
use Rattle.pattern.specs.declared.reader.Reader.{Reader}
use Rattle.pattern.specs.declared.token.Kind.{Kind}
use Rattle.pattern.specs.Expressions.{Expr, has_tag}
use Rattle.pattern.specs.Trees.{node, Stands}
use Rattle.pattern.specs.Descent.{Source, source, kind_at, offset_at, Out, good, bad, Want, repeats, Parses}

-- the tokens and the length that a reader reads
abbrev pub source_of : Reader → Source
source_of r = source r.tokens.now r.end

-- the kind of the token at the reader's place
abbrev pub kind_here : Reader → Kind
kind_here r = kind_at (source_of r) r.pos

-- its offset
abbrev pub offset_here : Reader → ℕ
offset_here r = offset_at (source_of r) r.pos

-- a part's node stands for an expression, and its mark says whether that has a tag
pub record Means (ns : List Node) (k : Part) (e : Expr) : Type 0 where
  pub stands : Stands ns k.root e
  pub mark : k.tagged ≡ has_tag e

-- one token on, with the same nodes
pub record Past (before after : Reader) : Type 0 where
  pub same : source_of after ≡ source_of before
  pub pos : after.pos ≡ before.pos + 1
  pub used : after.used ≡ before.used
  pub nodes : after.nodes ≡ before.nodes

-- one token on, if the token is of that kind; else the reader stays as it is
abbrev pub Took : Kind → Reader → Bool → Reader → Type 0
Took k before true after = (kind_here before ≡ k) × Past before after
Took k before false after = (kind_here before ≢ k) × (after ≡ before)

-- the node n was added, under the number k
pub record Added (n : Node) (before : Reader) (k : ℕ) (after : Reader) : Type 0 where
  pub same : source_of after ≡ source_of before
  pub number : k ≡ before.used
  pub used : after.used ≡ before.used + 1
  pub pos : after.pos ≡ before.pos
  pub here : node after.nodes k ≡ n
  pub others : (j : ℕ) → j < before.used → node after.nodes j ≡ node before.nodes j

-- from one state of the reader to a later one, with k among its nodes: what stood for an expression still does
pub record Kept (before : Reader) (k : ℕ) (after : Reader) : Type 0 where
  pub same : source_of after ≡ source_of before
  pub below : k < after.used
  pub rose : before.pos ≤ after.pos
  pub room : after.used + 2 * before.pos ≤ before.used + 2 * after.pos
  pub grew : before.used ≤ after.used
  pub stays : (a : ℕ) (e : Expr) → a < before.used → Stands before.nodes a e → Stands after.nodes a e

-- w was read, and k stands for its expression
pub record Did (w : Want) (before : Reader) (k : Part) (after : Reader) : Type 0 where
  pub kept : Kept before k.root after
  pub past : before.pos < after.pos
  pub spare : after.used + 2 * before.pos < before.used + 2 * after.pos
  pub expr : Expr
  pub reads : Parses (source_of before) w before.pos (good expr after.pos)
  pub means : Means after.nodes k expr

-- w was read, or is refused
abbrev pub Came : Want → Reader → Result Part Fault → Reader → Type 0
Came w before r after = MatchResult r (λ k. Did w before k after) (λ f. Parses (source_of before) w before.pos (bad f))

-- what follows the expression e was read in part: what is left to read gives the whole
pub record Gone (more : Expr → Want) (before : Reader) (e : Expr) (k : Part) (after : Reader) : Type 0 where
  pub expr : Expr
  pub onward : (o : Out) → Parses (source_of after) (more expr) after.pos o → Parses (source_of before) (more e) before.pos o
  pub means : Means after.nodes k expr

-- what follows the first part was read in part, and k stands for both together
pub record SoFar (more : Expr → Want) (before : Reader) (first k : Part) (after : Reader) : Type 0 where
  pub kept : Kept before k.root after
  pub gone : (e : Expr) → Means before.nodes first e → Gone more before e k after

-- what repeats a unit was read, and k stands for the whole
pub record Repeated (before : Reader) (unit k : Part) (after : Reader) : Type 0 where
  pub kept : Kept before k.root after
  pub whole : (e : Expr) → Means before.nodes unit e → (f : Expr) × Parses (source_of before) (repeats e) before.pos (good f after.pos) × Means after.nodes k f

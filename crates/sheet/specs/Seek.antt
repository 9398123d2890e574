-- A line sought among things in order, by its key: what is below a number comes before it, and what is from that number on does not. The contracts of the
-- calls for the host cite nothing of this file.
use Rattle.std.specs.Prelude.{◌≡◌, Bool, List, ℕ, ◌+◌, ◌*◌, ◌≤◌, ◌<◌, length, take, drop}
use Rattle.sheet.specs.Lists.{Lex}
use Rattle.sheet.specs.Computed.{lexb}
use Rattle.sheet.specs.declared.seek.Group.{Group}

-- of n things with these keys, those below number `low` come before the key a, and those from number `high` on do not
pub record Parted (n : ℕ) (at : ℕ → List ℕ) (a : List ℕ) (low high : ℕ) : Type 0 where
  pub order : low ≤ high
  pub most : high ≤ n
  pub before : (k : ℕ) → k < low → Lex (at k) a
  pub rest : (k : ℕ) → high ≤ k → k < n → Lex (at k) a → ⊥

-- the test tells of each of n things with these keys whether it comes before the key a
abbrev pub Tells : (ℕ → Bool → Type 0) → ℕ → (ℕ → List ℕ) → List ℕ → Type 0
Tells test n at a = (k : ℕ) → k < n → (b : Bool) → test k b → b ≡ lexb (at k) a

-- the first numbers of line i of the group, by which it is sought
abbrev pub key_in : List ℕ → Group → ℕ → List ℕ
key_in all g i = take g.key (drop (g.base + i * g.width) all)

-- the lines of the group stand in the array, and ascend by their first numbers
pub record Seekable (all : List ℕ) (g : Group) : Type 0 where
  pub narrow : g.width ≤ 8
  pub key-inside : g.key ≤ g.width
  pub few : g.count ≤ 256
  pub low : g.base ≤ 100000
  pub inside : g.base + g.count * g.width ≤ length all
  pub ascends : (i j : ℕ) → i < j → j < g.count → Lex (key_in all g i) (key_in all g j)

-- a line of the group has the first numbers of v
pub record Listed (all : List ℕ) (g : Group) (v : List ℕ) : Type 0 where
  pub at : ℕ
  pub below : at < g.count
  pub same : key_in all g at ≡ take g.key v

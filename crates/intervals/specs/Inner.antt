-- What the functions over a sheet's occupancies promise.
use Rattle.std.specs.Prelude.{◌≡◌, Bool, true, false, ◌&&◌, List, ℕ, ◌+◌, ◌*◌, ◌≤◌, ◌<◌, ◌/◌, leb, eqb, length}
use Rattle.sheet.specs.Lists.{pick, number}
use Rattle.intervals.specs.Sets.{Has, Kept}

-- line k occupies place v at step t
abbrev pub coversb : List ℕ → ℕ → ℕ → ℕ → Bool
coversb l v t k = eqb (number l (k * 3)) v && leb (number l (k * 3 + 1)) t && leb t (number l (k * 3 + 2))

-- the entry of place v and step t
abbrev pub entry : List ℕ → ℕ → ℕ → ℕ
entry since v t = number since (v * 256 + t)

-- 1 where n steps after t is no later than `last`, and the free run of v that holds it begins at t or before
abbrev pub stay_by : List ℕ → ℕ → ℕ → ℕ → ℕ → ℕ
stay_by since v last n t = pick (leb (t + n) last && leb (entry since v (t + n)) t) 1 0

pub record Blank (since : List ℕ) : Type 0 where
  pub every : (i : ℕ) → i < 16384 → number since i ≡ 0

-- the entries of line k stand in the table
pub record MarkableLine (occupancies : List ℕ) (k : ℕ) : Type 0 where
  pub place : number occupancies (k * 3) < 64
  pub step : number occupancies (k * 3 + 2) ≤ 255

-- the entries of place w from step a to step b are 256 after, and the others as before
pub record MarkedSteps (w a b : ℕ) (before after : List ℕ) : Type 0 where
  pub hit : (t : ℕ) → t < 256 → a ≤ t → t ≤ b → entry after w t ≡ 256
  pub kept : (v t : ℕ) → v < 64 → t < 256 → (v ≡ w → a ≤ t → t ≤ b → ⊥) → entry after v t ≡ entry before v t

-- the entries of the first n lines are 256, and the others 0
pub record Marked (occupancies : List ℕ) (n : ℕ) (since : List ℕ) : Type 0 where
  pub hit : (v t k : ℕ) → v < 64 → t < 256 → k < n → coversb occupancies v t k ≡ true → entry since v t ≡ 256
  pub free : (v t : ℕ) → v < 64 → t < 256 → ((k : ℕ) → k < n → coversb occupancies v t k ≡ false) → entry since v t ≡ 0

-- step t is in the free run of v that begins after the marked step a
pub record InRun (since : List ℕ) (v a t : ℕ) : Type 0 where
  pub marked : entry since v a ≡ 256
  pub later : a < t
  pub free : (i : ℕ) → a < i → i ≤ t → entry since v i ≡ 256 → ⊥

-- the entries of the free run of v that begins after the marked step a are its first step after, and the others as before
pub record FilledRun (v a : ℕ) (before after : List ℕ) : Type 0 where
  pub hit : (t : ℕ) → t < 256 → InRun before v a t → entry after v t ≡ a + 1
  pub kept : (w t : ℕ) → w < 64 → t < 256 → (w ≡ v → InRun before v a t → ⊥) → entry after w t ≡ entry before w t

-- the place of each of the first n lines is in the set of the step after its last
pub record Followed (occupancies : List ℕ) (n : ℕ) (before after : List ℕ) : Type 0 where
  pub kept : Kept before after
  pub own : (k : ℕ) → k < n → Has (number after (number occupancies (k * 3 + 2) + 1)) (number occupancies (k * 3))

abbrev pub FollowedBy : List ℕ → List ℕ → List ℕ → Type 0
FollowedBy occupancies = Followed occupancies (length occupancies / 3)

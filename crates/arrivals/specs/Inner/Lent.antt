-- What the code of the search asks of the network and the first steps that it is lent.
use Rattle.std.specs.Prelude.{◌≡◌, List, ℕ, zero, suc, ◌≤◌, ◌<◌, length}
use Rattle.std.proofs.Common.{arith}
use Rattle.arrivals.specs.Inner.Network.{case_of, Lawful, Legal, Cheap, wait_in, link_of, link_at, count_of, places_of, start_of, dear_of, into_of, closures_of, closure_of}
use Rattle.arrivals.specs.Inner.Network.{links-at}
use Rattle.arrivals.specs.Inner.Chains.{by_place, by_cell, Chained}

-- the closures of the network are chained
pub record Closing (net : List ℕ) : Type 0 where
  pub size : 4484 ≤ length net
  pub few : closures_of net ≤ 256
  pub places : (x : ℕ) → x < closures_of net → closure_of net 1 x < 64
  pub noted : (x : ℕ) → x < closures_of net → into_of net (closure_of net 1 x) ≡ 0 → ⊥
  pub chained : Chained by_cell net (closures_of net)

pub record Given (free net : List ℕ) : Type 0 where
  pub legal : Legal (case_of free net)
  pub intervals : 16384 ≤ length free
  pub size : 4484 ≤ length net
  pub few : count_of net ≤ 256
  pub places : places_of net ≤ 64
  pub start : start_of net < places_of net
  pub out : Chained (by_place 0) net (count_of net)
  pub into : Chained (by_place 1) net (count_of net)
  pub closing : Closing net
  pub cheap : (j : ℕ) → j < count_of net → dear_of net j ≡ 0 → Cheap (wait_in net) (link_at net j)

pub link-lawful : {free net : List ℕ} → Given free net → (j : ℕ) → j < count_of net → Lawful (places_of net) (link_at net j)
link-lawful {free} {net} given j l = links-at (Lawful (places_of net)) net (count_of net) j l given.legal.links

-- a network whose corridors lead between places
pub record Linked (net : List ℕ) : Type 0 where
  pub size : 4484 ≤ length net
  pub few : count_of net ≤ 256
  pub ends : (q j : ℕ) → q < 2 → j < count_of net → link_of net q j < 64

pub given-linked : {free net : List ℕ} → Given free net → Linked net
given-linked {free} {net} given = record { size = given.size; few = given.few; ends = ends }
  where
    ends : (q j : ℕ) → q < 2 → j < count_of net → link_of net q j < 64
    ends zero j l m = omega (arith, (link-lawful given j m).from, given.places)
    ends (suc zero) j l m = omega (arith, (link-lawful given j m).to, given.places)
    ends (suc (suc q)) j l m = absurd (omega arith)

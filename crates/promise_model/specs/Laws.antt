-- What makes a promise that is kept: figures of the network calculus (`Flows` of network's specs/Loads) for which the windows provide, and
-- printed ones that cover them. Assumes nothing: these are statements; proofs/LawsHold proves them.
use Rattle.std.specs.Prelude.{◌≡◌, ◌≢◌, ℕ, ◌*◌, ◌≤◌, ◌<◌}
use Rattle.links.specs.declared.Timing.{Timing}
use Rattle.network.specs.Loads.{Flows, burst_after, Provisioned}
use Rattle.promise_model.specs.Promise.{Site, Printed, network_of, Windows, Keeps}

pub record Covered (t : Timing) (S : Site) (P : Printed) (F : Flows) : Type 0 where
  -- the sensors' token buckets are the site's
  pub own_burst : (v : ℕ) → v < S.nodes → S.burst v * t.interval.0 ≤ F.own_burst v
  pub own_rate : (v : ℕ) → v < S.nodes → S.rate v ≤ F.own_rate v
  -- BUFFER has room for as many frames as the burst that has left the link
  pub buffer : (v : ℕ) → v < S.nodes → v ≢ S.sink → (n : ℕ) → n * t.interval.0 ≤ burst_after F v → n ≤ (P.buffer v).0
  -- the delay that is promised to a sensor which may make frames is at least that of its route
  pub delay : (v : ℕ) → v < S.nodes → (S.burst v ≡ 0 → S.rate v ≡ 0 → ⊥) → F.route v ≤ (P.delay v).0
  -- BURST and RATE of the sink are at least those of the load that enters it
  pub sink_burst : F.burst S.sink ≤ P.burst.0
  pub sink_rate : F.rate S.sink ≤ P.rate.0

abbrev pub CoveredIsKept : Type 0
CoveredIsKept = (t : Timing) (S : Site) (P : Printed) (F : Flows) → 0 < t.interval.0 → Covered t S P F
    → ((offset : ℕ → ℕ) → Windows t S P offset → Provisioned (network_of t S P offset) F) → Keeps t S P

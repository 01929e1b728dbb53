-- What the fate of a host's line by its prefix is in the words of a line whose device call may fail.
use Rattle.std.proofs.Common.{◌≡◌, true, false, List, [], ◌∷◌, ◌++◌, length, take, Option, Some, None, refl, sym, ◌∙◌, ap, append-nil}
use Rattle.cap_entries.specs.declared.host.HostEntry.{HostEntry}
use Rattle.cap_schedule.specs.declared.outcome.Outcome.{Outcome}
use Rattle.cap_schedule.specs.declared.outcome.Outcome.TheVariants.{WasCut}
use Rattle.cap_schedule.specs.declared.schedule.Prefix.{Prefix}
use Rattle.cap_schedule.specs.declared.schedule.Prefix.TheVariants.{Cut, Fail, CutAfter}
use Rattle.cap_world.specs.World.{HostState}
use Rattle.cap_plays.specs.Turns.{HostWork, HostTurn}
use Rattle.cap_plays.specs.Plays.{no_doubt}
use Rattle.cap_plays.specs.Corresponds.{host_whole, host_cut_after, host_fate}
use Rattle.cap_power.specs.Counting.{cuts_after}
use Rattle.cap_power.specs.Prefixes.{armed_of, ended_of}
use Rattle.cap_host_lines.specs.Acts.{host_armed, counted_replies}

-- a line whose end the power outlives
pub fate_is_armed : (prefix : Option Prefix) (s : HostState) (turn : HostTurn) → cuts_after prefix ≡ false → host_fate prefix s turn ≡ host_armed (armed_of prefix) s turn (ended_of prefix)
fate_is_armed None s turn not_after = refl
fate_is_armed (Some (Cut call fill)) s turn not_after = refl
fate_is_armed (Some (Fail call fill)) s turn not_after = refl
fate_is_armed (Some CutAfter) s turn not_after = absurd (not_false not_after)
  where
    not_false : true ≡ false → ⊥
    not_false e = cc

take_none : {Entry : Type 0} (entries : List Entry) → take 0 entries ≡ []
take_none [] = refl
take_none (entry ∷ entries) = refl

-- the power goes after the line: what its step added is tried, and all of it is kept
pub after_settled : (s : HostState) (work : Option HostWork) (outcome : Outcome)
    → (host_whole s work outcome).state.settled ≡ (host_cut_after s work).state.settled ++ (host_cut_after s work).state.tried
after_settled s None outcome = sym (append-nil (s.settled ++ take 0 s.tried) ∙ (ap (λ (l : List HostEntry). s.settled ++ l) (take_none s.tried) ∙ append-nil s.settled))
after_settled s (Some work) outcome = refl

pub after_off : (s : HostState) (work : Option HostWork) → (host_cut_after s work).state.on ≡ false
after_off s None = refl
after_off s (Some work) = refl

pub after_doubt : (s : HostState) (work : Option HostWork) → (host_cut_after s work).doubt ≡ no_doubt (length (host_cut_after s work).state.tried)
after_doubt s None = refl
after_doubt s (Some work) = refl

pub after_outcome : (s : HostState) (work : Option HostWork) → (host_cut_after s work).outcome ≡ WasCut
after_outcome s None = refl
after_outcome s (Some work) = refl

-- nothing is answered
pub after_silent : (s : HostState) (work : Option HostWork) → counted_replies (host_cut_after s work) ≡ []
after_silent s None = refl
after_silent s (Some work) = refl

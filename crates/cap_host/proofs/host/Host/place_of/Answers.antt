use Rattle.std.proofs.Common.{◌≡◌, ◌∙◌, sym, ap, ℕ, List, Option, None, Some}
use Rattle.std.specs.Prelude.{bytes_eq}
use Rattle.std.specs.List.{position}
use Rattle.cap_entries.specs.Settings.{HostSettings}
use Rattle.cap_host_answers.specs.Received.{place_from, place_of}
use Rattle.cap_host.specs.Host.{entries_of}
use Rattle.cap_host.proofs.Named.{place_is}
use Rattle.cap_host.proofs.host.Host.place_of.Goals as goal

pub returns-in-Some-clause-place : goal.returns-in-Some-clause-place
returns-in-Some-clause-place g c =
    let host = c.args.self.now in
    c.in-Some.ensures.index
    ∙ (ap (λ (name : List ℕ). position (bytes_eq name) host.names.keys) c.new.ensures
    ∙ (ap (λ (names : List (List ℕ)). position (bytes_eq c.args.name.now) names) host.named
    ∙ (place_is host.setup.terminals c.args.name.now ∙ ap (λ (s : HostSettings). place_from 0 s.terminals c.args.name.now) host.ties.set_up)))

pub returns-in-None-clause-place : goal.returns-in-None-clause-place
returns-in-None-clause-place g c =
    let host = c.args.self.now in
    c.in-None.ensures.index
    ∙ (ap (λ (name : List ℕ). position (bytes_eq name) host.names.keys) c.new.ensures
    ∙ (ap (λ (names : List (List ℕ)). position (bytes_eq c.args.name.now) names) host.named
    ∙ (place_is host.setup.terminals c.args.name.now ∙ ap (λ (s : HostSettings). place_from 0 s.terminals c.args.name.now) host.ties.set_up)))

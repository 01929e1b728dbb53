-- What the test of noise says of the parties of a schedule.
use Rattle.std.proofs.Common.{◌≡◌, ℕ, zero, suc, Bool, true, false, ◌&&◌, ◌||◌, not, List, [], ◌∷◌, map, Some, refl, ap, subst, inl, inr, cond}
use Rattle.std.specs.Prelude.{slice_get}
use Rattle.std.specs.List.{AllByRecursion, list_any}
use Rattle.std.specs.Str.{bytes_eq}
use Rattle.std.proofs.lemmas.Slice.Eq.{bytes_eq-Decides}
use Rattle.cap_msgs.specs.Received.{Received, Read, Unread}
use Rattle.cap_entries.specs.Settings.{TerminalSettings}
use Rattle.cap_schedule.specs.declared.schedule.Order.{Order}
use Rattle.cap_schedule.specs.declared.schedule.Order.TheVariants as T
use Rattle.cap_schedule.specs.declared.schedule.HostOrder.{HostOrder}
use Rattle.cap_schedule.specs.declared.schedule.HostOrder.TheVariants as H
use Rattle.cap_schedule.specs.declared.schedule.Action.{Action}
use Rattle.cap_schedule.specs.declared.schedule.Action.TheVariants.{AtTerminal, AtHost, Reopen}
use Rattle.cap_schedule.specs.declared.schedule.Line.{Line}
use Rattle.cap_schedule.specs.declared.schedule.Schedule.{Schedule}
use Rattle.cap_schedule.specs.SetUps.{is_named, is_party}
use Rattle.cap_schedule.specs.Noise.{is_foreign, order_noise, host_noise, is_noise, is_allowed}
use Rattle.cap_schedule.specs.Nobodys.{IsParty, IsNobodys, IsNoiseOfOrder, IsNoiseOfHostOrder, IsNoise}
use Rattle.cap_entries.specs.SetUps.{SetUpsMatch}

or_right : (a b : Bool) → b ≡ true → (a || b) ≡ true
or_right true b e = refl
or_right false b e = e

or_left : (a b : Bool) → a ≡ true → (a || b) ≡ true
or_left true b e = refl
or_left false b e = absurd (cc (e))

else_true : (a b : Bool) → b ≡ true → cond a true b ≡ true
else_true true b e = refl
else_true false b e = e

same_bytes : (xs ys : List ℕ) → xs ≡ ys → bytes_eq xs ys ≡ true
same_bytes xs ys e = (bytes_eq-Decides xs ys).1 e

some_is : (xs ys : List ℕ) → Some xs ≡ Some ys → xs ≡ ys
some_is xs ys e = cc (e)

named_any : (terminals : List TerminalSettings) (place : ℕ) (name : List ℕ) → slice_get (map (λ t. t.terminal) terminals) place ≡ Some name → list_any (is_named name) terminals ≡ true
named_any [] place name e = absurd (cc (e))
named_any (t ∷ terminals) zero name e = or_left (bytes_eq t.terminal name) (list_any (is_named name) terminals) (same_bytes t.terminal name (some_is t.terminal name e))
named_any (t ∷ terminals) (suc place) name e = or_right (bytes_eq t.terminal name) (list_any (is_named name) terminals) (named_any terminals place name e)

party_true : (s : Schedule) → SetUpsMatch s.host s.terminals → (name : List ℕ) → IsParty s name → is_party s.host.host s.terminals name ≡ true
party_true s match name (inl e) = ap (λ test. cond test true (list_any (is_named name) s.terminals)) (same_bytes name s.host.host e)
party_true s match name (inr (place, e)) =
    else_true (bytes_eq name s.host.host) (list_any (is_named name) s.terminals)
    (named_any s.terminals place name (subst (λ names. slice_get names place ≡ Some name) match.names e))

clash : (a b : Bool) → not (a && b) ≡ true → a ≡ true → b ≡ true → ⊥
clash true true e p q = absurd (cc (e))
clash true false e p q = absurd (cc (q))
clash false b e p q = absurd (cc (p))

nobodys : (s : Schedule) → SetUpsMatch s.host s.terminals → (r : Received) → is_foreign s.host.host s.terminals r ≡ true → IsNobodys s r
nobodys s match (Unread fault) e = tt
nobodys s match (Read m) e = λ from to.
    clash (is_party s.host.host s.terminals m.header.from) (is_party s.host.host s.terminals m.header.to) e
    (party_true s match m.header.from from) (party_true s match m.header.to to)

order_nobodys : (reads : List ℕ → Received) (s : Schedule) → SetUpsMatch s.host s.terminals → (order : Order) → is_noise reads s.host.host s.terminals (order_noise order) ≡ true → IsNoiseOfOrder reads s order
order_nobodys reads s match (T.Hear bytes) e = nobodys s match (reads bytes) e
order_nobodys reads s match (T.Begin amount account) e = tt
order_nobodys reads s match (T.Offline n) e = tt
order_nobodys reads s match (T.Sale amount account) e = tt
order_nobodys reads s match (T.Void n) e = tt
order_nobodys reads s match (T.Cancel n) e = tt
order_nobodys reads s match T.Close e = tt
order_nobodys reads s match T.Push e = tt
order_nobodys reads s match (T.Batch n) e = tt
order_nobodys reads s match (T.Ask n) e = tt
order_nobodys reads s match (T.AskCancel n) e = tt
order_nobodys reads s match T.Diagnose e = tt
order_nobodys reads s match (T.Status wanted) e = tt
order_nobodys reads s match (T.Down n) e = tt
order_nobodys reads s match (T.Walkout n) e = tt

host_nobodys : (reads : List ℕ → Received) (s : Schedule) → SetUpsMatch s.host s.terminals → (order : HostOrder) → is_noise reads s.host.host s.terminals (host_noise order) ≡ true → IsNoiseOfHostOrder reads s order
host_nobodys reads s match (H.Listen bytes) e = nobodys s match (reads bytes) e
host_nobodys reads s match (H.Up place which) e = tt
host_nobodys reads s match (H.Publish rows) e = tt

action_nobodys : (reads : List ℕ → Received) (s : Schedule) → SetUpsMatch s.host s.terminals → (action : Action) → is_allowed reads s.host.host s.terminals action ≡ true → IsNoise reads s action
action_nobodys reads s match (AtTerminal place order) e = order_nobodys reads s match order e
action_nobodys reads s match (AtHost order) e = host_nobodys reads s match order e
action_nobodys reads s match (Reopen end) e = tt

-- the bytes of noise of a line are allowed in a schedule of these parties
abbrev pub IsAllowedLine : (reads : List ℕ → Received) → List ℕ → List TerminalSettings → Line → Type 0
IsAllowedLine reads host terminals line = is_allowed reads host terminals line.action ≡ true

pub all_nobodys : (reads : List ℕ → Received) (s : Schedule) → SetUpsMatch s.host s.terminals → (ls : List Line)
    → AllByRecursion (IsAllowedLine reads s.host.host s.terminals) ls → AllByRecursion (λ (line : Line). IsNoise reads s line.action) ls
all_nobodys reads s match [] all = tt
all_nobodys reads s match (line ∷ ls) (p, all) = (action_nobodys reads s match line.action p, all_nobodys reads s match ls all)

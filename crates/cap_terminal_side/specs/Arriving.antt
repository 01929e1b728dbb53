-- How a terminal of the network stands where answers arrive at it, and where more calls may have been made.
use Rattle.std.proofs.Common.{◌≡◌, ℕ, ◌≤◌, Bool, true, false, List, [], ◌∷◌, ◌++◌, Vec, Global, sym, subst, arith}
use Rattle.std.proofs.lemmas.List.{map-append}
use Rattle.cap_msgs.specs.declared.message.Message.{Message}
use Rattle.cap_disk.specs.declared.memory.MemoryDisk.{MemoryDisk}
use Rattle.cap_entries.specs.declared.terminal.TermEntry.{TermEntry}
use Rattle.cap_world.specs.World.{TerminalState}
use Rattle.cap_plays.specs.Plays.{Doubt}
use Rattle.cap_plays.specs.Corresponds.{answered, places_after}
use Rattle.cap_plays.specs.Answers.{counted_still, counted_more}
use Rattle.cap_plays.specs.Texts.{IsTextOf, AreTexts, texts_in}
use Rattle.cap_power.specs.Standing.{IsReady}
use Rattle.cap_power.specs.declared.power.Power.{Power}
use Rattle.cap_power.specs.declared.power.Power.TheVariants.{On, Off, Lent}
use Rattle.cap_terminal_side.specs.Sides.{SideStands}

-- texts behind texts
pub texts_behind : (texts more : List (List ℕ)) (messages others : List Message) → AreTexts texts messages → AreTexts more others → AreTexts (texts ++ more) (messages ++ others)
texts_behind [] more [] others are also = also
texts_behind [] more (message ∷ messages) others are also = absurd are
texts_behind (text ∷ texts) more [] others are also = absurd are
texts_behind (text ∷ texts) more (message ∷ messages) others are also = (are.0, texts_behind texts more messages others are.1 also)

pub kept_behind : (texts more : List (Vec ℕ Global)) (messages others : List Message) → AreTexts (texts_in texts) messages → AreTexts (texts_in more) others → AreTexts (texts_in (texts ++ more)) (messages ++ others)
kept_behind texts more messages others are also =
    subst (λ (l : List (List ℕ)). AreTexts l (messages ++ others)) (sym (map-append (λ (v : Vec ℕ Global). v.items) texts more))
    (texts_behind (texts_in texts) (texts_in more) messages others are also)

module _ {T : Type 0} (entries : T → List TermEntry) (disk : T → MemoryDisk) (has_failed : T → Bool) where
  pub more_ready : (n m : ℕ) (power : Power T) → n ≤ m → IsReady has_failed disk n power → IsReady has_failed disk m power
  more_ready n m (On end) le ready = (ready.0, let few : ready.1.calls ≤ n = ready.1.few in record { calls = ready.1.calls; few = omega (arith, few, le); is = ready.1.is })
  more_ready n m (Off left) le ready = tt
  more_ready n m Lent le ready = tt

  -- it may have answered more calls
  pub side_later : (n m : ℕ) (power : Power T) (sent answers : Vec (Vec ℕ Global) Global) (s : TerminalState) (places : List ℕ) (doubt : Doubt) → n ≤ m
      → SideStands entries disk has_failed n power sent answers s places doubt → SideStands entries disk has_failed m power sent answers s places doubt
  side_later n m power sent answers s places doubt le stands = record {
    stands = stands.stands;
    ready = more_ready n m power le stands.ready;
    sent_are = stands.sent_are;
    heard = stands.heard;
    counted = stands.counted;
    answers_are = stands.answers_are;
  }

  -- answers that don't count leave it as it was
  pub side_still : (most : ℕ) (power : Power T) (sent answers : Vec (Vec ℕ Global) Global) (s : TerminalState) (places : List ℕ) (doubt : Doubt) (replies : List Message)
      → SideStands entries disk has_failed most power sent answers s places doubt
      → SideStands entries disk has_failed most power sent answers (answered s replies) (places_after places s replies false) doubt
  side_still most power sent answers s places doubt replies stands = record {
    stands = stands.stands;
    ready = stands.ready;
    sent_are = stands.sent_are;
    heard = stands.heard;
    counted = counted_still s.answers replies places stands.heard stands.counted;
    answers_are = stands.answers_are;
  }

  -- one that does, once its text is kept
  pub side_heard : (most : ℕ) (power : Power T) (sent answers now : Vec (Vec ℕ Global) Global) (s : TerminalState) (places : List ℕ) (doubt : Doubt) (message : Message) (text : Vec ℕ Global)
      → SideStands entries disk has_failed most power sent answers s places doubt → IsTextOf message text.items → now.items ≡ answers.items ++ text ∷ []
      → SideStands entries disk has_failed most power sent now (answered s (message ∷ [])) (places_after places s (message ∷ []) true) doubt
  side_heard most power sent answers now s places doubt message text stands is kept = record {
    stands = stands.stands;
    ready = stands.ready;
    sent_are = stands.sent_are;
    heard = stands.heard ++ message ∷ [];
    counted = counted_more s.answers (message ∷ []) places stands.heard stands.counted;
    answers_are = subst (λ (l : List (Vec ℕ Global)). AreTexts (texts_in l) (stands.heard ++ message ∷ [])) (sym kept)
        (kept_behind answers.items (text ∷ []) stands.heard (message ∷ []) stands.answers_are (is, tt));
  }

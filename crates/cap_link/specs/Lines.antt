-- What a link tells.
use Rattle.std.proofs.Common.{refl, sym, ap, ◌∙◌, append_assoc}
use Rattle.std.proofs.lemmas.List.{append-nil}
use Rattle.std.proofs.lemmas.Bool.{false≢true}
use Rattle.std.specs.Prelude.{◌≡◌, ℕ, List, [], ◌∷◌, ◌++◌, map, Option, Some, None, true, false, Result, MatchResult, is_some}

-- what was taken from a connection and put on it
pub record Talk : Type 0 where
  pub taken : List ℕ
  pub put : List ℕ

-- the open connection
pub record Line : Type 0 where
  pub left : List ℕ
  pub talk : Talk

-- the connections left, each with its bytes; the earlier ones; the open one
pub record Lines : Type 0 where
  pub waiting : List (List ℕ)
  pub ended : List Talk
  pub current : Option Line

abbrev pub talk_of : Option Line → List Talk
talk_of None = []
talk_of (Some line) = line.talk ∷ []

-- what was taken and put on each connection so far
abbrev pub talks : Lines → List Talk
talks lines = lines.ended ++ talk_of lines.current

-- what was put on each connection that was opened, in order
abbrev pub puts_of : Lines → List (List ℕ)
puts_of lines = map (λ (talk : Talk). talk.put) (talks lines)

-- the first connection left is opened
pub record Opens (old new : Lines) : Type 0 where
  pub bytes : List ℕ
  pub more : List (List ℕ)
  pub first : old.waiting ≡ bytes ∷ more
  pub opened : new ≡ record { waiting = more; ended = talks old; current = Some (record { left = bytes; talk = record { taken = []; put = [] } }) }

-- on the open connection these bytes are taken from those left, and these are put; all else stays
pub record Exchanges (taken put : List ℕ) (old new : Lines) : Type 0 where
  pub before : Line
  pub rest : List ℕ
  pub is_open : old.current ≡ Some before
  pub left : before.left ≡ taken ++ rest
  pub now : new ≡ record { waiting = old.waiting; ended = old.ended; current = Some (record { left = rest; talk = record { taken = before.talk.taken ++ taken; put = before.talk.put ++ put } }) }

-- a front of these bytes is put
pub record PutsSome (bytes : List ℕ) (old new : Lines) : Type 0 where
  pub front : List ℕ
  pub back : List ℕ
  pub parts : front ++ back ≡ bytes
  pub put : Exchanges [] front old new

abbrev pub Puts : {T E : Type 0} → List ℕ → Lines → Lines → Result T E → Type 0
Puts bytes old new result = MatchResult result (λ _. Exchanges [] bytes old new) (λ _. PutsSome bytes old new)

-- nothing is left on the open connection
abbrev pub HasNoneLeft : Lines → Type 0
HasNoneLeft lines = (line : Line) × (lines.current ≡ Some line) × (line.left ≡ [])

-- what tells nothing owes nothing
pub untold : {A : Type 0} → false ≡ true → A
untold e = absurd (false≢true e)

-- nothing is taken, and nothing is put
pub nothing : (lines : Lines) → (line : Line) × (lines.current ≡ Some line) → Exchanges [] [] lines lines
nothing lines (line, is) = record {
  before = line;
  rest = line.left;
  is_open = is;
  left = refl;
  now = λ i. record { waiting = lines.waiting; ended = lines.ended; current = (is ∙ ap (λ (talk : Talk). let s : Option Line = Some (record { left = line.left; talk = talk }) in s) (λ j. record { taken = sym (append-nil line.talk.taken) j; put = sym (append-nil line.talk.put) j })) i };
}

pub puts_nothing : (bytes : List ℕ) (lines : Lines) → (line : Line) × (lines.current ≡ Some line) → PutsSome bytes lines lines
puts_nothing bytes lines line = record { front = []; back = bytes; parts = refl; put = nothing lines line }

some_is : (x y : Line) → (let a : Option Line = Some x in a ≡ Some y) → x ≡ y
some_is x y e = cc

-- one exchange after the other
pub exchanges_more : (t p s q : List ℕ) (a b c : Lines) → Exchanges t p a b → Exchanges s q b c → Exchanges (t ++ s) (p ++ q) a c
exchanges_more t p s q a b c x y =
    let line : Line = record { left = x.rest; talk = record { taken = x.before.talk.taken ++ t; put = x.before.talk.put ++ p } } in
    let same : y.before ≡ line = some_is y.before line (sym y.is_open ∙ ap (λ (l : Lines). l.current) x.now) in
    record {
      before = x.before;
      rest = y.rest;
      is_open = x.is_open;
      left = x.left ∙ (ap (λ l. t ++ l) (sym (ap (λ (l : Line). l.left) same) ∙ y.left) ∙ sym (append_assoc t s y.rest));
      now = y.now ∙ (λ i. record {
        waiting = ap (λ (l : Lines). l.waiting) x.now i;
        ended = ap (λ (l : Lines). l.ended) x.now i;
        current = Some (record {
          left = y.rest;
          talk = record {
            taken = (ap (λ (l : Line). l.talk.taken ++ s) same ∙ append_assoc x.before.talk.taken t s) i;
            put = (ap (λ (l : Line). l.talk.put ++ q) same ∙ append_assoc x.before.talk.put p q) i;
          };
        });
      });
    }

-- where a connection is open, there is one
pub open_one : (current : Option Line) → is_some current ≡ true → (line : Line) × (current ≡ Some line)
open_one None e = untold e
open_one (Some line) e = (line, refl)

-- What is heard, piece by piece, behind what is put, and on the connection that was opened.
use Rattle.std.proofs.Common.{◌≡◌, inl, inr, ℕ, List, [], ◌++◌, Bool, true, false, IsTrue, Some, Result, Ok, Err, refl, sym, subst, ◌∙◌, arith}
use Rattle.std.specs.Result.{IsErr, OnErr}
use Rattle.std.specs.Global.{Vec}
use Rattle.std.proofs.lemmas.Bool.{false≢true}
use Rattle.std.proofs.lemmas.List.{append-nil}
use Rattle.cap_frame.specs.Frame.{frame_of}
use Rattle.cap_link.specs.Lines.{Talk, Line, Lines, Exchanges, PutsSome, nothing, exchanges_more, untold}
use Rattle.cap_exchange.specs.declared.heard.NoAnswer.{NoAnswer}
use Rattle.cap_exchange.specs.declared.heard.NoAnswer.TheVariants.{Port, Connection, Line as LineFault, Early, BadLength}
use Rattle.cap_exchange.specs.Exchange.{Seen, FaultRose, NoFewer, CutShort, heard_of}
use Rattle.cap_exchange.specs.Hearing.{IsBegun, HearsPiece, Talks, Takes, Hears, PutsFirst, PutsBy, Converses, Breaks}
use Rattle.cap_exchange.proofs.Begun.{begun_short}

pub on_err : {T E : Type 0} (r : Result T E) (P : Type 0) → P → OnErr r P
on_err (Ok x) P p = tt
on_err (Err e) P p = p

pub ok_apart : {E : Type 0} (opened : Bool) → opened ≡ false → (let r : Result Bool E = Ok opened in r ≡ Ok true) → ⊥
ok_apart opened is same = let all : opened ≡ true = cc in false≢true (sym is ∙ all)

pub err_apart : {T E : Type 0} (e : E) (x : T) → (let r : Result T E = Err e in r ≡ Ok x) → ⊥
err_apart {T} {E} e x same = false≢true (subst (λ (r : Result T E). IsErr r) same refl)

abbrev pub taking : List ℕ → Talk
taking taken = record { taken = taken; put = [] }

abbrev pub putting : List ℕ → Talk
putting put = record { taken = []; put = put }

pub no_fewer : (a : Seen) → NoFewer a a
no_fewer a = record { port = omega arith; line = omega arith }

pub no_fewer_more : (a b c : Seen) → NoFewer a b → NoFewer b c → NoFewer a c
no_fewer_more a b c x y = record { port = omega (arith, x.port, y.port); line = omega (arith, x.line, y.line) }

-- a count that rose after some time rose over all of it
pub rose_later : (heard : Result (List ℕ) NoAnswer) (a b c : Seen) → NoFewer a b → FaultRose heard b c → FaultRose heard a c
rose_later (Ok body) a b c x rose = tt
rose_later (Err Port) a b c x rose = omega (arith, x.port, rose)
rose_later (Err Connection) a b c x rose = tt
rose_later (Err LineFault) a b c x rose = omega (arith, x.line, rose)
rose_later (Err Early) a b c x rose = tt
rose_later (Err (BadLength n)) a b c x rose = tt

module _ (tells : Bool) where
  pub talks_nothing : (taken : List ℕ) (s : Seen) → taken ≡ [] → (IsTrue tells → (line : Line) × (s.lines.current ≡ Some line)) → Talks tells (taking taken) s s
  talks_nothing taken s none line = record {
    talks = λ told. subst (λ (l : List ℕ). Exchanges l [] s.lines s.lines) (sym none) (nothing s.lines (line told));
    later = no_fewer s;
  }

  pub talks_more : (t p s q : List ℕ) (a b c : Seen) → Talks tells (record { taken = t; put = p }) a b → Talks tells (record { taken = s; put = q }) b c
      → Talks tells (record { taken = t ++ s; put = p ++ q }) a c
  talks_more t p s q a b c x y = record {
    talks = λ told. exchanges_more t p s q a.lines b.lines c.lines (x.talks told) (y.talks told);
    later = no_fewer_more a b c x.later y.later;
  }

  -- one more piece
  pub takes_more : (taken piece : List ℕ) (a b c : Seen) → Talks tells (taking taken) a b → (IsTrue tells → Exchanges piece [] b.lines c.lines) → NoFewer b c
      → Talks tells (taking (taken ++ piece)) a c
  takes_more taken piece a b c x more later = talks_more taken [] piece [] a b c x (record { talks = more; later = later })

  -- a fault of the line came in taking
  pub faults_in_take : (taken : List ℕ) (a b c : Seen) → IsBegun taken → Talks tells (taking taken) a b → (IsTrue tells → c.lines ≡ b.lines) → NoFewer b c
      → FaultRose {B = List ℕ} (Err LineFault) b c → Hears tells (Err LineFault) a c
  faults_in_take taken a b c begun x same later rose = record {
    taken = taken;
    bytes = begun;
    takes = record { talks = λ told. subst (λ (l : Lines). Exchanges taken [] a.lines l) (sym (same told)) (x.talks told); later = no_fewer_more a b c x.later later };
    left = λ _. tt;
    rose = rose_later (Err LineFault) a b c x.later rose;
  }

  -- what the bytes taken have is what is heard
  pub hears_piece : (heard : Result (Vec ℕ) NoAnswer) (taken held : List ℕ) (a c : Seen) → HearsPiece (Some heard) taken held → Talks tells (taking taken) a c
      → Hears tells (heard_of heard) a c
  hears_piece (Ok body) taken held a c bytes x = record { taken = taken; bytes = bytes; takes = x; left = λ _. tt; rose = tt }
  hears_piece (Err Port) taken held a c bytes x = absurd bytes
  hears_piece (Err Connection) taken held a c bytes x = absurd bytes
  hears_piece (Err LineFault) taken held a c bytes x = absurd bytes
  hears_piece (Err Early) taken held a c bytes x = absurd bytes
  hears_piece (Err (BadLength n)) taken held a c bytes x = record { taken = taken; bytes = bytes; takes = x; left = λ _. tt; rose = tt }

  puts_whole : (heard : Result (List ℕ) NoAnswer) (bytes taken : List ℕ) → PutsBy heard bytes (record { taken = taken; put = bytes })
  puts_whole (Ok body) bytes taken = refl
  puts_whole (Err Port) bytes taken = refl
  puts_whole (Err Connection) bytes taken = refl
  puts_whole (Err LineFault) bytes taken = record { front = ([], append-nil bytes); first = inr refl }
  puts_whole (Err Early) bytes taken = refl
  puts_whole (Err (BadLength n)) bytes taken = refl

  module _ (framed : List ℕ) (a b c : Seen) (put : IsTrue tells → Exchanges [] framed a.lines b.lines) (later : NoFewer a b) where
    talks_behind : (taken : List ℕ) → Talks tells (taking taken) b c → Talks tells (record { taken = taken; put = framed }) a c
    talks_behind taken x =
        subst (λ (l : List ℕ). Talks tells (record { taken = taken; put = l }) a c) (append-nil framed)
        (talks_more [] framed taken [] a b c (record { talks = put; later = later }) x)

    -- all was put, and then this was heard
    pub converses : (heard : Result (List ℕ) NoAnswer) → Hears tells heard b c → Converses tells framed heard a c
    converses heard x = record {
      talk = record { taken = x.taken; put = framed };
      put = puts_whole heard framed x.taken;
      bytes = x.bytes;
      talks = talks_behind x.taken x.takes;
      left = x.left;
      rose = rose_later heard a b c later x.rose;
    }

    -- all was put, and then memory ended it
    pub breaks_behind : Takes tells b c → Breaks tells framed a c
    breaks_behind x = record {
      talk = record { taken = x.taken; put = framed };
      put = record { front = ([], append-nil framed); first = inr refl };
      talks = talks_behind x.taken x.takes;
    }

-- a front of the bytes was put, also where the link tells nothing
part_put : (tells : Bool) (framed : List ℕ) (a b : Seen) → (IsTrue tells → PutsSome framed a.lines b.lines) → NoFewer a b
    → (put : List ℕ) × PutsFirst framed (putting put) × Talks tells (putting put) a b
part_put true framed a b some later =
    let s = some refl in (s.front, record { front = (s.back, s.parts); first = inl refl }, record { talks = λ _. s.put; later = later })
part_put false framed a b some later = ([], record { front = (framed, refl); first = inl refl }, record { talks = λ e. untold e; later = later })

module _ (tells : Bool) (framed : List ℕ) (a b : Seen) (some : IsTrue tells → PutsSome framed a.lines b.lines) (later : NoFewer a b) where
  -- memory ended it in putting
  pub breaks_in_put : Breaks tells framed a b
  breaks_in_put = let p = part_put tells framed a b some later in record { talk = putting p.0; put = p.1; talks = p.2 }

  -- a fault of the line came in putting
  pub faults_in_put : FaultRose {B = List ℕ} (Err LineFault) a b → Converses tells framed (Err LineFault) a b
  faults_in_put rose =
      let p = part_put tells framed a b some later in
      record {
        talk = putting p.0;
        put = p.1;
        bytes = begun_short [] (omega arith);
        talks = p.2;
        left = λ _. tt;
        rose = rose;
      }

module _ (tells : Bool) (text : List ℕ) where
  -- memory ended it before a connection was opened
  pub cut_before : (s : Seen) → CutShort tells text (putting []) s s
  cut_before s = record {
    front = (frame_of text, refl);
    taken = inl refl;
    talks = λ _. inl (refl, refl, refl);
    later = no_fewer s;
  }

-- A run of connections, one after the other.
use Rattle.std.proofs.Common.{◌≡◌, ◌⊎◌, inl, inr, ℕ, suc, ◌+◌, ◌<◌, ◌≤◌, List, [], ◌∷◌, ◌++◌, length, Bool, true, false, IsTrue, Option, Some, None, Result, refl, sym, ap, subst, ◌∙◌, append_assoc, arith}
use Rattle.std.specs.Io.KnownBytes.{Appends}
use Rattle.std.proofs.lemmas.List.{append-nil, length-append}
use Rattle.cap_base.specs.Streams.{AppendsSome}
use Rattle.cap_link.specs.Lines.{Lines, Opens}
use Rattle.cap_answering.specs.declared.reply.Reply.{Reply}
use Rattle.cap_answering.specs.Steps.{EndState, working}
use Rattle.cap_drive.specs.declared.closing.Closing.{Closing}
use Rattle.cap_drive.specs.declared.serve.ServeEnd.{ServeEnd}
use Rattle.cap_drive.specs.declared.serve.ServeEnd.TheVariants.{Write, Disk, Memory}
use Rattle.cap_drive.specs.Counted.{RoseBy}
use Rattle.cap_drive.specs.Frames.{replies_of}
use Rattle.cap_drive.specs.Connections.{Ending, At_end, At_take, At_put, At_bad_length, At_disk, At_limit, Shut, Lacks, Lacks_to_put, Connection, is_whole, Talks, AllWhole, HostRun}
use Rattle.cap_drive.specs.Composing.{run_more}
use Rattle.cap_drive.specs.Lines.{connection_line, connection_lines, line_by, line_fault, disk_fault, line_faults, disk_faults}
use Rattle.cap_drive.specs.Driver.{BreaksOff, Serves}
use Rattle.cap_drive.specs.Closings.{closing_of, closing_line, Made}
use Rattle.cap_drive.specs.Passing.{GoesOn, BreaksIn}

whole_push : (cs : List Connection) (c : Connection) → AllWhole cs → is_whole c.ending ≡ true → AllWhole (cs ++ c ∷ [])
whole_push [] c all whole = (whole, tt)
whole_push (d ∷ cs) c all whole = (all.0, whole_push cs c all.1 whole)

lines_push : (i : ℕ) (cs : List Connection) (c : Connection) → connection_lines i (cs ++ c ∷ []) ≡ connection_lines i cs ++ connection_line (i + length cs) c
lines_push i [] c =
    let same : i ≡ i + 0 = omega arith in
    append-nil (connection_line i c) ∙ ap (λ (k : ℕ). connection_line k c) same
lines_push i (d ∷ cs) c =
    let same : i + 1 + length cs ≡ i + suc (length cs) = omega arith in
    ap (λ (l : List ℕ). connection_line i d ++ l) (lines_push (i + 1) cs c ∙ ap (λ (k : ℕ). connection_lines (i + 1) cs ++ connection_line k c) same)
    ∙ sym (append_assoc (connection_line i d) (connection_lines (i + 1) cs) (connection_line (i + suc (length cs)) c))

line_faults_push : (cs : List Connection) (c : Connection) → line_faults (cs ++ c ∷ []) ≡ line_faults cs + line_fault c.ending
line_faults_push [] c = omega arith
line_faults_push (d ∷ cs) c = omega (arith, line_faults_push cs c)

disk_faults_push : (cs : List Connection) (c : Connection) → disk_faults (cs ++ c ∷ []) ≡ disk_faults cs + disk_fault c.ending
disk_faults_push [] c = omega arith
disk_faults_push (d ∷ cs) c = omega (arith, disk_faults_push cs c)

-- the line of a connection is that of its closing
line_by_closing : (i : ℕ) (c : Connection) (e : Ending) → is_whole e ≡ true → line_by i c e ≡ closing_line i (length (replies_of c.answered)) (closing_of e)
line_by_closing i c At_end whole = refl
line_by_closing i c At_take whole = refl
line_by_closing i c (At_put a part rest) whole = refl
line_by_closing i c (At_bad_length n) whole = refl
line_by_closing i c (At_disk moment body kept) whole = refl
line_by_closing i c At_limit whole = refl
line_by_closing i c (Shut moment body) whole = absurd (cc whole)
line_by_closing i c Lacks whole = absurd (cc whole)
line_by_closing i c (Lacks_to_put a part rest) whole = absurd (cc whole)

no_line : (i : ℕ) (c : Connection) (e : Ending) → is_whole e ≡ false → line_by i c e ≡ []
no_line i c At_end broken = absurd (cc broken)
no_line i c At_take broken = absurd (cc broken)
no_line i c (At_put a part rest) broken = absurd (cc broken)
no_line i c (At_bad_length n) broken = absurd (cc broken)
no_line i c (At_disk moment body kept) broken = absurd (cc broken)
no_line i c At_limit broken = absurd (cc broken)
no_line i c (Shut moment body) broken = refl
no_line i c Lacks broken = refl
no_line i c (Lacks_to_put a part rest) broken = refl

line_told : (i : ℕ) (c : Connection) (replied : ℕ) (closing : Closing) → is_whole c.ending ≡ true → closing_of c.ending ≡ closing → replied ≡ length (replies_of c.answered) → closing_line i replied closing ≡ connection_line i c
line_told i c replied closing whole is counted =
    ap (λ (k : Closing). closing_line i replied k) (sym is) ∙ (ap (λ (n : ℕ). closing_line i n (closing_of c.ending)) counted ∙ sym (line_by_closing i c c.ending whole))

pub appends_nothing : (old : Option (List ℕ)) → Appends old old []
appends_nothing None = tt
appends_nothing (Some xs) = sym (append-nil xs)

appends_more : (a b c : Option (List ℕ)) (xs ys : List ℕ) → Appends a b xs → Appends b c ys → Appends a c (xs ++ ys)
appends_more None b c xs ys first second = tt
appends_more (Some l) None c xs ys first second = absurd first
appends_more (Some l) (Some m) None xs ys first second = absurd second
appends_more (Some l) (Some m) (Some n) xs ys first second = second ∙ (ap (λ (k : List ℕ). k ++ ys) first ∙ append_assoc l xs ys)

opened_next : (count n : ℕ) (cs : List Connection) (c : Connection) → length cs ≡ count → count < n → length (cs ++ c ∷ []) ≤ n
opened_next count n cs c many lt = omega (arith, many, lt, length-append cs (c ∷ []))

pub counted_next : (count : ℕ) (cs : List Connection) (c : Connection) → length cs ≡ count → length (cs ++ c ∷ []) ≡ count + 1
counted_next count cs c many = omega (arith, many, length-append cs (c ∷ []))

rose_join : (m n k a b c : ℕ) → k ≡ m + n → RoseBy m a b → RoseBy n b c → RoseBy k a c
rose_join m n k a b c is first second = omega (arith, is, first, second)

module _ {E : Type 0} (known readable : Bool) (adds : List E → ℕ → List ℕ → List E → Type 0) (replies : List E → ℕ → List ℕ → Reply → Type 0) (told : Option ℕ) (link_tells : Bool) where
  -- A run so far: so many connections were opened, and the end has these entries now.
  pub record Running (first : ℕ) (start now : List E) (before after : Lines) (old new : Option (List ℕ)) (line_before line_after disk_before disk_after count : ℕ) : Type 0 where
    pub served : List Connection
    pub run : HostRun known readable adds replies told link_tells served (working start) (working now) before after
    pub many : length served ≡ count
    pub whole : AllWhole served
    pub text : Appends old new (connection_lines first served)
    pub faults : RoseBy (line_faults served) line_before line_after
    pub disks : RoseBy (disk_faults served) disk_before disk_after

  -- what became of the link meanwhile, where no connection was opened
  pub running_still : (first : ℕ) (start now : List E) (before after last : Lines) (old new : Option (List ℕ)) (line_before line_after line_last disk_before disk_after count : ℕ) → (IsTrue link_tells → last ≡ after) → line_last ≡ line_after
      → Running first start now before after old new line_before line_after disk_before disk_after count → Running first start now before last old new line_before line_last disk_before disk_after count
  running_still first start now before after last old new line_before line_after line_last disk_before disk_after count same line x = record {
    served = x.served;
    run = record {
      steps = x.run.steps;
      each = x.run.each;
      moments = x.run.moments;
      talks = λ can. subst (λ (v : Lines). Talks before x.served v) (sym (same can)) (x.run.talks can);
    };
    many = x.many;
    whole = x.whole;
    text = x.text;
    faults = subst (λ (n : ℕ). RoseBy (line_faults x.served) line_before n) (sym line) x.faults;
    disks = x.disks;
  }

  -- one more connection
  module _ (first connections count : ℕ) (start now : List E) (before middle opened after : Lines) (old new : Option (List ℕ)) (line_before line_middle line_after disk_before disk_middle disk_after : ℕ)
      (x : Running first start now before middle old new line_before line_middle disk_before disk_middle count) (lt : count < connections) (opens : IsTrue link_tells → Opens middle opened) where
    run_on : (c : Connection) (to : EndState E) (replied : ℕ) → Made known readable adds replies told link_tells c now to opened after replied
        → HostRun known readable adds replies told link_tells (x.served ++ c ∷ []) (working start) to before after
    run_on c to replied made =
        run_more known readable adds replies told link_tells x.served c (working start) (working now) to before middle after x.run made.steps made.served made.moments
        (λ can. (opened, after, opens can, made.exchanged can, made.emptied can, refl))

    module _ (closing : Closing) (replied : ℕ) (then : List E) (y : GoesOn known readable adds replies told link_tells closing replied now then opened after line_middle line_after disk_middle disk_after) where
      line_is : closing_line (first + count) replied closing ≡ connection_line (first + length x.served) y.c
      line_is =
          line_told (first + count) y.c replied closing y.whole y.is_told y.made.counted
          ∙ ap (λ (n : ℕ). connection_line (first + n) y.c) (sym x.many)

      faults_on : RoseBy (line_faults (x.served ++ y.c ∷ [])) line_before line_after
      faults_on = rose_join (line_faults x.served) (line_fault y.c.ending) (line_faults (x.served ++ y.c ∷ [])) line_before line_middle line_after (line_faults_push x.served y.c) x.faults y.faults

      disks_on : RoseBy (disk_faults (x.served ++ y.c ∷ [])) disk_before disk_after
      disks_on = rose_join (disk_faults x.served) (disk_fault y.c.ending) (disk_faults (x.served ++ y.c ∷ [])) disk_before disk_middle disk_after (disk_faults_push x.served y.c) x.disks y.disks

      pub running_more : (last : Option (List ℕ)) → Appends new last (closing_line (first + count) replied closing)
          → Running first start then before after old last line_before line_after disk_before disk_after (count + 1)
      running_more last put = record {
        served = x.served ++ y.c ∷ [];
        run = run_on y.c (working then) replied y.made;
        many = counted_next count x.served y.c x.many;
        whole = whole_push x.served y.c x.whole y.whole;
        text = subst (λ (l : List ℕ). Appends old last l) (sym (lines_push first x.served y.c))
            (appends_more old new last (connection_lines first x.served) (connection_line (first + length x.served) y.c) x.text (subst (λ (l : List ℕ). Appends new last l) line_is put));
        faults = faults_on;
        disks = disks_on;
      }

      broken_line : (last : Option (List ℕ)) → AppendsSome new last (closing_line (first + count) replied closing) → BreaksOff first (x.served ++ y.c ∷ []) old last
      broken_line last (front, back, parts, put) = record {
        earlier = x.served;
        last = y.c;
        all = refl;
        part = front;
        rest = back;
        parts = parts ∙ line_is;
        written = appends_more old new last (connection_lines first x.served) front x.text put;
      }

      pub serves_write : (last : Option (List ℕ)) → AppendsSome new last (closing_line (first + count) replied closing)
          → Serves known readable adds replies told link_tells Write first connections start (x.served ++ y.c ∷ []) (working then) before after old last line_before line_after disk_before disk_after
      serves_write last put = record {
        run = run_on y.c (working then) replied y.made;
        few = opened_next count connections x.served y.c x.many lt;
        opened = tt;
        ends = whole_push x.served y.c x.whole y.whole;
        text = broken_line last put;
        faults = faults_on;
        disks = disks_on;
        twice = λ can reads e. absurd (cc e);
      }

      pub serves_line_lacks : (last : Option (List ℕ)) → AppendsSome new last (closing_line (first + count) replied closing)
          → Serves known readable adds replies told link_tells Memory first connections start (x.served ++ y.c ∷ []) (working then) before after old last line_before line_after disk_before disk_after
      serves_line_lacks last put = record {
        run = run_on y.c (working then) replied y.made;
        few = opened_next count connections x.served y.c x.many lt;
        opened = tt;
        ends = inl (whole_push x.served y.c x.whole y.whole);
        text = inr (broken_line last put);
        faults = faults_on;
        disks = disks_on;
        twice = λ can reads e. absurd (cc e);
      }

    module _ {H J : Type 0} (entries : H → List E) (has_failed : H → Bool) (has : List ℕ → List E → Type 0) (may_leave : H → List ℕ → Type 0) (journal_may_leave : J → List ℕ → Type 0) (why : ServeEnd) (back : Result H J)
        (y : BreaksIn known readable adds replies told link_tells entries has_failed has may_leave journal_may_leave why back now opened after line_middle line_after disk_middle disk_after) where
      faults_in : RoseBy (line_faults (x.served ++ y.c ∷ [])) line_before line_after
      faults_in = rose_join (line_faults x.served) (line_fault y.c.ending) (line_faults (x.served ++ y.c ∷ [])) line_before line_middle line_after (line_faults_push x.served y.c) x.faults y.faults

      disks_in : RoseBy (disk_faults (x.served ++ y.c ∷ [])) disk_before disk_after
      disks_in = rose_join (disk_faults x.served) (disk_fault y.c.ending) (disk_faults (x.served ++ y.c ∷ [])) disk_before disk_middle disk_after (disk_faults_push x.served y.c) x.disks y.disks

      twice_in : IsTrue known → IsTrue readable → why ≡ Disk → RoseBy (disk_faults (x.served ++ y.c ∷ []) + 1) disk_before disk_after
      twice_in can reads is =
          let push = disk_faults_push x.served y.c in
          rose_join (disk_faults x.served) (disk_fault y.c.ending + 1) (disk_faults (x.served ++ y.c ∷ []) + 1) disk_before disk_middle disk_after (omega (arith, push)) x.disks (y.twice can reads is)

      no_line_in : connection_lines first (x.served ++ y.c ∷ []) ≡ connection_lines first x.served
      no_line_in =
          lines_push first x.served y.c ∙ (ap (λ (l : List ℕ). connection_lines first x.served ++ l) (no_line (first + length x.served) y.c y.c.ending y.broken) ∙ append-nil (connection_lines first x.served))

      text_in : Appends old new (connection_lines first (x.served ++ y.c ∷ []))
      text_in = subst (λ (l : List ℕ). Appends old new l) (sym no_line_in) x.text

      serves_in_as : (which : (why ≡ Disk) ⊎ (why ≡ Memory))
          → Serves known readable adds replies told link_tells why first connections start (x.served ++ y.c ∷ []) y.stands before after old new line_before line_after disk_before disk_after
      serves_in_as (inl is) =
          subst (λ (e : ServeEnd). Serves known readable adds replies told link_tells e first connections start (x.served ++ y.c ∷ []) y.stands before after old new line_before line_after disk_before disk_after) (sym is)
          (record {
            run = run_on y.c y.stands y.replied y.made;
            few = opened_next count connections x.served y.c x.many lt;
            opened = tt;
            ends = (x.served, y.c, refl, x.whole, y.shut is);
            text = text_in;
            faults = faults_in;
            disks = disks_in;
            twice = λ can reads e. twice_in can reads is;
          })
      serves_in_as (inr is) =
          subst (λ (e : ServeEnd). Serves known readable adds replies told link_tells e first connections start (x.served ++ y.c ∷ []) y.stands before after old new line_before line_after disk_before disk_after) (sym is)
          (record {
            run = run_on y.c y.stands y.replied y.made;
            few = opened_next count connections x.served y.c x.many lt;
            opened = tt;
            ends = inr (x.served, y.c, refl, x.whole, y.broken);
            text = inl text_in;
            faults = faults_in;
            disks = disks_in;
            twice = λ can reads e. absurd (cc e);
          })

      pub serves_in : Serves known readable adds replies told link_tells why first connections start (x.served ++ y.c ∷ []) y.stands before after old new line_before line_after disk_before disk_after
      serves_in = serves_in_as y.which

-- the same, where what is told stayed
module _ {E : Type 0} (adds : List E → ℕ → List ℕ → List E → Type 0) (replies : List E → ℕ → List ℕ → Reply → Type 0) (known knew readable read : Bool) (told then : Option ℕ) (tells did : Bool)
    (k : known ≡ knew) (r : readable ≡ read) (t : told ≡ then) (l : tells ≡ did) where
  pub goes_on_as : (closing : Closing) (replied : ℕ) (old new : List E) (before after : Lines) (a b c d : ℕ)
      → GoesOn known readable adds replies told tells closing replied old new before after a b c d → GoesOn knew read adds replies then did closing replied old new before after a b c d
  goes_on_as closing replied old new before after a b c d x =
      subst (λ (v : Bool). GoesOn knew read adds replies then v closing replied old new before after a b c d) l
      (subst (λ (v : Option ℕ). GoesOn knew read adds replies v tells closing replied old new before after a b c d) t
      (subst (λ (v : Bool). GoesOn knew v adds replies told tells closing replied old new before after a b c d) r
      (subst (λ (v : Bool). GoesOn v readable adds replies told tells closing replied old new before after a b c d) k x)))

  pub breaks_in_as : {H J : Type 0} (entries : H → List E) (has_failed : H → Bool) (has : List ℕ → List E → Type 0) (may_leave : H → List ℕ → Type 0) (journal_may_leave : J → List ℕ → Type 0) (why : ServeEnd) (back : Result H J)
      (old : List E) (before after : Lines) (a b c d : ℕ)
      → BreaksIn known readable adds replies told tells entries has_failed has may_leave journal_may_leave why back old before after a b c d
      → BreaksIn knew read adds replies then did entries has_failed has may_leave journal_may_leave why back old before after a b c d
  breaks_in_as entries has_failed has may_leave journal_may_leave why back old before after a b c d x =
      subst (λ (v : Bool). BreaksIn knew read adds replies then v entries has_failed has may_leave journal_may_leave why back old before after a b c d) l
      (subst (λ (v : Option ℕ). BreaksIn knew read adds replies v tells entries has_failed has may_leave journal_may_leave why back old before after a b c d) t
      (subst (λ (v : Bool). BreaksIn knew v adds replies told tells entries has_failed has may_leave journal_may_leave why back old before after a b c d) r
      (subst (λ (v : Bool). BreaksIn v readable adds replies told tells entries has_failed has may_leave journal_may_leave why back old before after a b c d) k x)))

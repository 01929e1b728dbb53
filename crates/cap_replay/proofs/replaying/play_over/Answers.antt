use Rattle.cap_replay.proofs.replaying.play_over.Goals as goal

pub returns : goal.returns
returns g c = λ reads reader noise.
    let p = c.in_ok-text.ensures reads reader noise in
    record {
      played = p.played;
      run = p.run;
      reports = p.reports;
      holds = c.in_ok-disks.ensures p.played.last p.doubts p.stands p.run.all_on;
    }

use Rattle.cap_text.proofs.reason.+version_ends.Given as goal

abbrev pub decreases-version_ends : goal.decreases-version_ends
decreases-version_ends l = l.most

use Rattle.std.proofs.Common.{rules, ◌≡◌, Some}
use Rattle.cap_text.proofs.Answering.{reads}
use Rattle.cap_text.proofs.reader.PieceReader.feed.Goals as goal

pub returns-else-is_err-clause-read : goal.returns-else-is_err-clause-read
returns-else-is_err-clause-read c = λ bytes h few.
    let was : c.args.self.now.reading ≡ Some c.in-Some.reading = search rules in
    reads c.feed-fed.result c.args.self.now c.in-Some.reading c.feed-fed.new.self bytes c.args.piece.now was h few c.feed-fed.ensures

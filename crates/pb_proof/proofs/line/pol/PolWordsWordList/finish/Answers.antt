use Rattle.pb_proof.proofs.{Common.◌∙◌, Common.ap, Common.PolState, Common.PolWord, lemmas.pol.Moves.whole_value}
use Rattle.std.proofs.Common.{Global, Vec}
use Rattle.pb_proof.proofs.line.pol.PolWordsWordList.finish.Goals as goal

pub returns-clause-event : goal.returns-clause-event
returns-clause-event c =
    whole_value c.args.self.now.depth c.args.self.now.words c.from_vec.result c.requires
    (c.from_vec.ensures ∙ (ap (λ (v : Vec PolWord Global). v.items) c.replace.ensures.value ∙ ap (λ (s : PolState). s.words) c.self.view_is))

use Rattle.pb_pieces.proofs.{Common.ℕ, Common.◌∙◌, Common.ap, Common.List, Common.map, Common.number_in, Common.with_name, Numbers.one_more}
use Rattle.pb_pieces.proofs.flat.Named.push.Goals as goal

pub returns : goal.returns
returns c terms h =
    one_more terms c.args.term.now c.args.self.now (record { names = c.number.new.self; terms = c.push.new.self }) c.in_ok-number.number h
    (c.in_ok-number.ensures.names ∙ ap (λ (x : List ℕ). with_name c.args.self.now.names x) c.as_str.ensures)
    (c.in_ok-number.ensures.number ∙ ap (λ (x : List ℕ). number_in c.number.new.self x) c.as_str.ensures)
    (c.in_ok-push.ensures terms (map (λ u. number_in c.args.self.now.names u.literal.name) terms) h.terms_are)

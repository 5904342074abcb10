use Rattle.pb_lines.proofs.machine.WordMachine.step.Goals as goal

pub returns : goal.returns
returns g c = rw (← c.self.view_is) (c.step_of.ensures c.self.inside.name)

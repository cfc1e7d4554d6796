use Rattle.ep_reader.proofs.text.lex_text.Goals as goal

pub returns-in-Err-Stray : goal.returns-in-Err-Stray
returns-in-Err-Stray c = c.in-Err-Stray.ensures.stray c.in-Err-Stray.at (cc)

-- `titles::title_of` meets its contract: the bytes of the name, one by one.
use mathlib.Core.Path.{◌≡◌}
use Rattle.std.proofs.Common.{rules}
use Rattle.std.proofs.lemmas.Slice.Eq.{text_from_reads}
use lib.Chars.{codes}
use Rattle.lines.proofs.titles.title_of.Goals as goal

pub returns-in-grant : goal.returns-in-grant
returns-in-grant c = let e : c.args.word.now ≡ codes "grant" = text_from_reads _ _ (search rules) (search rules) in rw e

pub returns-in-message : goal.returns-in-message
returns-in-message c = let e : c.args.word.now ≡ codes "message" = text_from_reads _ _ (search rules) (search rules) in rw e

pub returns-in-serve : goal.returns-in-serve
returns-in-serve c = let e : c.args.word.now ≡ codes "serve" = text_from_reads _ _ (search rules) (search rules) in rw e

pub returns-in-granted : goal.returns-in-granted
returns-in-granted c = let e : c.args.word.now ≡ codes "granted" = text_from_reads _ _ (search rules) (search rules) in rw e

pub returns-in-help : goal.returns-in-help
returns-in-help c = let e : c.args.word.now ≡ codes "help" = text_from_reads _ _ (search rules) (search rules) in rw e

pub returns-in-quit : goal.returns-in-quit
returns-in-quit c = let e : c.args.word.now ≡ codes "quit" = text_from_reads _ _ (search rules) (search rules) in rw e

pub returns-in-quit-2 : goal.returns-in-quit-2
returns-in-quit-2 c = let e : c.args.word.now ≡ codes "exit" = text_from_reads _ _ (search rules) (search rules) in rw e

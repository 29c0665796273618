-- `names::name_of` meets its contract: the bytes of the name, one by one.
use mathlib.Core.Path.{◌≡◌}
use Rattle.std.proofs.Common.{rules}
use Rattle.std.proofs.lemmas.Slice.Eq.{text_from_reads}
use lib.Chars.{codes}
use Rattle.lines.proofs.names.name_of.Goals as goal

pub returns-in-commit : goal.returns-in-commit
returns-in-commit c = let e : c.args.word.now ≡ codes "commit" = text_from_reads _ _ (search rules) (search rules) in rw e

pub returns-in-gossip : goal.returns-in-gossip
returns-in-gossip c = let e : c.args.word.now ≡ codes "gossip" = text_from_reads _ _ (search rules) (search rules) in rw e

pub returns-in-flush : goal.returns-in-flush
returns-in-flush c = let e : c.args.word.now ≡ codes "flush" = text_from_reads _ _ (search rules) (search rules) in rw e

pub returns-in-read : goal.returns-in-read
returns-in-read c = let e : c.args.word.now ≡ codes "read" = text_from_reads _ _ (search rules) (search rules) in rw e

pub returns-in-clock : goal.returns-in-clock
returns-in-clock c = let e : c.args.word.now ≡ codes "clock" = text_from_reads _ _ (search rules) (search rules) in rw e

pub returns-in-standing : goal.returns-in-standing
returns-in-standing c = let e : c.args.word.now ≡ codes "standing" = text_from_reads _ _ (search rules) (search rules) in rw e

pub returns-in-fresh : goal.returns-in-fresh
returns-in-fresh c = let e : c.args.word.now ≡ codes "fresh" = text_from_reads _ _ (search rules) (search rules) in rw e

pub returns-in-known : goal.returns-in-known
returns-in-known c = let e : c.args.word.now ≡ codes "known" = text_from_reads _ _ (search rules) (search rules) in rw e

pub returns-in-quit : goal.returns-in-quit
returns-in-quit c = let e : c.args.word.now ≡ codes "quit" = text_from_reads _ _ (search rules) (search rules) in rw e

pub returns-in-quit-2 : goal.returns-in-quit-2
returns-in-quit-2 c = let e : c.args.word.now ≡ codes "exit" = text_from_reads _ _ (search rules) (search rules) in rw e

pub returns-in-help : goal.returns-in-help
returns-in-help c = let e : c.args.word.now ≡ codes "help" = text_from_reads _ _ (search rules) (search rules) in rw e

pub returns-in-hear : goal.returns-in-hear
returns-in-hear c = let e : c.args.word.now ≡ codes "hear" = text_from_reads _ _ (search rules) (search rules) in rw e

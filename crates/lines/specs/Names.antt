-- "The command", the names of the calls, by how many numbers each takes; `hear` takes a hex word.
use Rattle.std.specs.Prelude.{ℕ, List, Option, Some, None}
use Rattle.std.specs.Str.{bytes_eq}
use Prim.Native.String.{String}
use lib.Chars.{codes}
use Rattle.model.specs.Lists.{pick}
use Rattle.lines.specs.declared.Topic.{Topic}
use Rattle.lines.specs.declared.Topic.TheVariants as topic
use Rattle.lines.specs.declared.names.Name.{Name}
use Rattle.lines.specs.declared.names.Name.TheVariants as name
use Rattle.lines.specs.declared.names.Bare.TheVariants as bare
use Rattle.lines.specs.declared.names.Single.TheVariants as single
use Rattle.lines.specs.declared.names.Double.TheVariants as double

-- a word that is spelt so, or another
abbrev pub spells : {A : Type 0} → List ℕ → String → A → Option A → Option A
spells w s a other = pick (bytes_eq w (codes s)) (Some a) other

-- what help is on
abbrev pub topic_of : List ℕ → Option Topic
topic_of w =
    spells w "codes" topic.Codes
    (spells w "standing" topic.Standing None)

abbrev pub name_of : List ℕ → Option Name
name_of w =
    spells w "commit" name.Commit
    (spells w "gossip" name.Gossip
    (spells w "flush" (name.Single single.Flush)
    (spells w "read" (name.Double double.Read)
    (spells w "clock" (name.Double double.Clock)
    (spells w "now" (name.Single single.Now)
    (spells w "standing" (name.Bare bare.Standing)
    (spells w "fresh" (name.Bare bare.Fresh)
    (spells w "known" (name.Bare bare.Known)
    (spells w "quit" (name.Bare bare.Quit)
    (spells w "exit" (name.Bare bare.Quit)
    (spells w "help" name.Help
    (spells w "cut" (name.Single single.Cut)
    (spells w "ask" (name.Single single.Ask)
    (spells w "hear" name.Hear None))))))))))))))

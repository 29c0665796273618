-- Lines of a journal: each record reads as the call that it records, and behind it stand, as a comment, its place and how many bytes it has.
use Rattle.std.specs.Prelude.{ℕ, List, [], ◌∷◌, ◌++◌, eqb, leb, length}
use Rattle.model.specs.Lists.{pick, both}
use Rattle.model.specs.declared.Answer.{Answer}
use Rattle.answers.specs.Says.{text, decimal, spaced, answer_text}

abbrev pub comment_text : ℕ → ℕ → List ℕ
comment_text offset size = text "  #" ++ spaced (offset ∷ size ∷ []) ++ text "\n"

-- ---- a commit: its writes are shown where there are at most sixteen and each object has its value
abbrev pub write_text : ℕ → ℕ → List ℕ
write_text o v = text " " ++ decimal o ++ text "=" ++ decimal v

abbrev pub writes_text : List ℕ → List ℕ → List ℕ
writes_text [] vs = []
writes_text (o ∷ os) [] = []
writes_text (o ∷ os) (v ∷ vs) = write_text o v ++ writes_text os vs

abbrev pub changes_text : List ℕ → List ℕ → List ℕ
changes_text os vs = pick (both (leb (length os) 16) (eqb (length os) (length vs))) (writes_text os vs) []

abbrev pub commit_line : ℕ → List ℕ → List ℕ → ℕ → ℕ → List ℕ
commit_line stamp os vs offset size = text "commit " ++ decimal stamp ++ changes_text os vs ++ comment_text offset size

-- ---- a gossip: its stamps are shown where there are at most sixteen
abbrev pub few_text : List ℕ → List ℕ
few_text ns = pick (leb (length ns) 16) (spaced ns) []

abbrev pub gossip_line : ℕ → ℕ → List ℕ → ℕ → ℕ → List ℕ
gossip_line prev curr stamps offset size = text "gossip" ++ spaced (prev ∷ curr ∷ []) ++ few_text stamps ++ comment_text offset size

abbrev pub flush_line : ℕ → ℕ → ℕ → List ℕ
flush_line page offset size = text "flush " ++ decimal page ++ comment_text offset size

-- ---- how the walk ends: behind the last record, before bytes that are no whole record, or at a record that is refused
abbrev pub end_line : ℕ → List ℕ
end_line place = text "# " ++ decimal place ++ text " end\n"

abbrev pub torn_line : ℕ → ℕ → List ℕ
torn_line place bytes = text "# " ++ decimal place ++ text " torn, " ++ decimal bytes ++ text " bytes\n"

abbrev pub refusal_line : Answer → List ℕ
refusal_line a = text "# " ++ answer_text a ++ text "\n"

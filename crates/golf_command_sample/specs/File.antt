-- The generated file of n parts, and the summary line of its run (profile).
use Rattle.std.specs.Prelude.{ℕ, zero, suc, List, [], ◌++◌, codes, decimal}
use Rattle.golf_command_sample.specs.declared.summary.Summary.{Summary}

-- the most parts of a generated file
abbrev pub most_parts : ℕ
most_parts = 5000

abbrev pub head : List ℕ
head =
    codes
    "package main\n\nimport \"runtime\"\n\ntype Node struct {\n\tc chan int\n\tnext *Node\n}\n\nvar root *Node\n\nfunc wait(c chan int) {\n\t<-c\n}\n\n"

abbrev pub part_body : List ℕ
part_body =
    codes
    "(n int) {\n\tc := make(chan int)\n\tgo wait(c)\n\tif n%2 == 0 {\n\t\troot = &Node{c: c, next: root}\n\t}\n}\n\n"

-- The k-th part leaves a goroutine that waits on a channel. The list at `root` holds the channel if k is even. Nothing
-- else holds it if k is odd.
abbrev pub part : ℕ → List ℕ
part k = codes "func part" ++ (decimal k ++ part_body)

-- the parts 1 to n
abbrev pub parts : ℕ → List ℕ
parts zero = []
parts (suc n) = parts n ++ part (suc n)

abbrev pub call : ℕ → List ℕ
call k = codes "\tpart" ++ (decimal k ++ (codes "(" ++ (decimal k ++ codes ")\n")))

-- the calls of these parts
abbrev pub calls : ℕ → List ℕ
calls zero = []
calls (suc n) = calls n ++ call (suc n)

-- as many rounds as each goroutine needs to block, and a collection
abbrev pub tail : ℕ → List ℕ
tail n = codes "\tfor i := 0; i < " ++ (decimal n ++ codes "; i++ {\n\t}\n\truntime.GC()\n}\n")

unfoldable pub file : ℕ → List ℕ
file n = head ++ (parts n ++ (codes "func main() {\n" ++ (calls n ++ tail n)))

-- the first part of the summary line: the parts and lines of the file, and the numbers of its collections and reports
abbrev pub summary_front : ℕ → ℕ → ℕ → ℕ → List ℕ
summary_front n lines collections reported =
    codes "generated " ++ (decimal n ++ (codes ": lines "
    ++ (decimal lines ++ (codes ", collections "
    ++ (decimal collections ++ (codes ", reported " ++ decimal reported))))))

abbrev pub summary_back : ℕ → ℕ → ℕ → List ℕ
summary_back kept reclaimed objects =
    codes ", kept " ++ (decimal kept ++ (codes ", reclaimed "
    ++ (decimal reclaimed ++ (codes ", objects " ++ (decimal objects ++ codes "\n")))))

abbrev pub summary : Summary → List ℕ
summary s = summary_front s.parts s.lines s.collections s.reported ++ summary_back s.kept s.reclaimed s.objects

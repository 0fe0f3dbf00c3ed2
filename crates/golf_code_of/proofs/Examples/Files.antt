-- Tables of texts, functions that are made, and the code of a whole file, against code that was written by hand.
use Rattle.std.specs.Prelude.{◌≡◌, negsuc, [], ◌∷◌, None, codes, refl}
use Rattle.golf_syntax_trees.specs.declared.declarations.Const.TheVariants as const
use Rattle.golf_syntax_trees.specs.declared.declarations.Decl.TheVariants as d
use Rattle.golf_syntax_trees.specs.declared.declarations.File.{File}
use Rattle.golf_data.specs.declared.code.Instr.{Instr}
use Rattle.golf_check_types.specs.declared.types.Layer.TheVariants as layer
use Rattle.golf_check_types.specs.declared.types.Base.TheVariants as base
use Rattle.golf_check_types.specs.declared.operands.BuiltIn.TheVariants as built_in
use Rattle.golf_check_types.specs.Files.{is_main}
use Rattle.golf_code_layout.specs.Piece.{placed}
use Rattle.golf_code_layout.specs.Depth.{depth}
use Rattle.golf_live.specs.Live.{needed, live}
use Rattle.golf_code_of.specs.Table.{table_of, text_number}
use Rattle.golf_code_of.specs.Texts.{texts_of}
use Rattle.golf_code_of.specs.Files.{CodeOf, made_function, last_return}
use Rattle.golf_code_of.proofs.Examples.Writing.{plain, layered, line}

-- the empty text comes first, and each other one if it appears first
pub each_text_once : table_of (codes "b" ∷ [] ∷ codes "a" ∷ codes "b" ∷ []) ≡ [] ∷ codes "b" ∷ codes "a" ∷ []
each_text_once = refl

pub number_of_a_text : text_number ([] ∷ codes "b" ∷ codes "a" ∷ []) (codes "a") ≡ 2
unfolding text_number
number_of_a_text = refl

-- go close(c), on line 3: the channel is the one slot
pub made_for_close : made_function [] (record {
  operation = built_in.Close;
  parameters = layered layer.Chan base.Int
      ∷ [];
  line = 3;
}) ≡
    record {
      params = 1;
      slots = 1;
      depth = 1;
      line = 3;
      body = line 3 (Instr.Load 0 ∷ Instr.Close ∷ Instr.Return ∷ []) [];
      live = 1 ∷ 0 ∷ 0 ∷ [];
    }
unfolding depth live needed
made_for_close = refl

-- defer wg.Done(): -1 is pushed inside
pub made_for_done : made_function [] (record {
  operation = built_in.Done;
  parameters = plain base.Group ∷ [];
  line = 4;
}) ≡
    record {
      params = 1;
      slots = 1;
      depth = 2;
      line = 4;
      body = line 4 (Instr.Load 0 ∷ Instr.Int (negsuc 0) ∷ Instr.GroupAdd ∷ Instr.Return ∷ []) [];
      live = 1 ∷ 0 ∷ 0
          ∷ 0 ∷ [];
    }
unfolding depth live needed
made_for_done = refl

-- go wg.Add(2): receiver and argument are the slots
pub made_for_add : made_function [] (record {
  operation = built_in.Add;
  parameters = plain base.Group ∷ plain base.Int
      ∷ [];
  line = 5;
}) ≡
    record {
      params = 2;
      slots = 2;
      depth = 2;
      line = 5;
      body = line 5 (Instr.Load 0 ∷ Instr.Load 1 ∷ Instr.GroupAdd ∷ Instr.Return ∷ []) [];
      live = 3 ∷ 2 ∷ 0 ∷ 0 ∷ [];
    }
unfolding depth live needed
made_for_add = refl

-- a body ends with a return, of the zero value if there is a result
pub ends_without_result : placed (last_return 7 None) 0 [] ≡ line 7 (Instr.Return ∷ []) []
ends_without_result = refl

pub ends_with_a_text : placed (last_return 7 (plain base.Text)) 0 [] ≡ line 7 (Instr.Text 0 ∷ Instr.ReturnValue ∷ []) []
ends_with_a_text = refl

pub ends_with_nil : placed (last_return 7 (layered layer.Slice base.Int)) 0 [] ≡ line 7
    (Instr.Nil ∷ Instr.ReturnValue ∷ []) []
ends_with_nil = refl

-- package main
-- const s = "a"
-- type T struct { }
-- func helper() { }
-- func main() { }
abbrev empty : File
empty = record {
  imports = [];
  declarations =
      d.Const 2 (codes "s") (const.Text (codes "a"))
      ∷ d.Struct 3 (codes "T") []
      ∷ d.Func (record { line = 4; receiver = None; name = codes "helper"; parameters = []; result = None; body = [] })
      ∷ d.Func (record { line = 5; receiver = None; name = codes "main"; parameters = []; result = None; body = [] })
      ∷ [];
}

-- function 0 calls `main`, which is function 2
pub empty-code : CodeOf empty ≡ record {
  functions =
      record {
        params = 0;
        slots = 0;
        depth = 0;
        line = 5;
        body = line 5 (Instr.Call 2 0 ∷ Instr.Return ∷ []) [];
        live = 0 ∷ 0 ∷ [];
      }
      ∷ record { params = 0; slots = 0; depth = 0; line = 4; body = line 4 (Instr.Return ∷ []) []; live = 0 ∷ [] }
      ∷ record { params = 0; slots = 0; depth = 0; line = 5; body = line 5 (Instr.Return ∷ []) []; live = 0 ∷ [] }
      ∷ [];
  globals = [];
  structs = [] ∷ [];
  texts = [] ∷ codes "a" ∷ [];
  main_line = 5;
}
unfolding CodeOf texts_of depth is_main live needed
empty-code = refl

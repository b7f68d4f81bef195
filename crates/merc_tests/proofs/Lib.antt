mod HandingOver

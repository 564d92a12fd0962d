mod Founded
